-- Every promise of this crate leaves one answer: two results that it allows for the same arguments are equal. Each is an equation of
-- what is answered by number with the definition that the contract names, so two of them meet there. Assumes nothing.
use mathlib.Core.Path.{refl, sym, ◌∙◌}
use Rattle.laws.specs.Promises.{OneAnswer}
use Rattle.refusals.proofs.Apart.{results_apart}
use Rattle.bylayout.specs.Answers.{as_code, no_code, as_pattern, no_pattern}
use Rattle.codes.proofs.calls.pack_one.Reads as pack_one
use Rattle.codes.proofs.calls.unpack_one.Reads as unpack_one

pub pack_one_unique : OneAnswer pack_one.Post
pack_one_unique κs a y z s t p q =
    results_apart as_code no_code (λ u. u.number) (λ u. u.code) (λ n. refl) (λ n. refl) (λ n. refl) y z (p ∙ sym q)

pub unpack_one_unique : OneAnswer unpack_one.Post
unpack_one_unique κs a y z s t p q =
    results_apart as_pattern no_pattern (λ u. u.number) (λ u. u.pattern) (λ n. refl) (λ n. refl) (λ n. refl) y z (p ∙ sym q)
