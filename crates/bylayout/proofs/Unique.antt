-- Every promise of this crate leaves one answer: two results that it allows for the same arguments are equal. Each is an equation of
-- what is answered by number with the definition that the contract names, so two of them meet there. Assumes nothing.
use Rattle.std.proofs.Common.{refl, sym, ◌∙◌}
use Rattle.laws.specs.Promises.{OneAnswer}
use Rattle.refusals.proofs.Apart.{results_apart}
use Rattle.bylayout.specs.Answers.{as_code, no_code, as_pattern, no_pattern}
use Rattle.bylayout.proofs.packing.pack_by.Reads as pack_by
use Rattle.bylayout.proofs.unpacking.unpack_by.Reads as unpack_by

pub pack_by_unique : OneAnswer pack_by.Post
pack_by_unique κs a y z s t p q =
    results_apart as_code no_code (λ u. u.number) (λ u. u.code) (λ n. refl) (λ n. refl) (λ n. refl) y z (p ∙ sym q)

pub unpack_by_unique : OneAnswer unpack_by.Post
unpack_by_unique κs a y z s t p q =
    results_apart as_pattern no_pattern (λ u. u.number) (λ u. u.pattern) (λ n. refl) (λ n. refl) (λ n. refl) y z (p ∙ sym q)
