-- Every promise of this crate leaves one answer: two results that it allows for the same arguments are equal. Each is an
-- equation with the definition that the contract names, so two of them meet there. Assumes nothing.
use mathlib.Core.Path.{refl, sym, ◌∙◌}
use Rattle.laws.specs.Promises.{OneAnswer}
use Rattle.refusals.proofs.Apart.{results_apart}
use Rattle.rounding.specs.Calls.{answered, refused}
use Rattle.rounding.proofs.Preparations.{preparations_apart}
use Rattle.rounding.proofs.calls.prepare.Reads as prepare
use Rattle.rounding.proofs.calls.round_by.Reads as round_by
use Rattle.rounding.proofs.calls.round_one.Reads as round_one

pub prepare_unique : OneAnswer prepare.Post
prepare_unique κs a y z s t p q = preparations_apart y z (p.1 ∙ sym q.1)

pub round_by_unique : OneAnswer round_by.Post
round_by_unique κs a y z s t p q = p ∙ sym q

pub round_one_unique : OneAnswer round_one.Post
round_one_unique κs a y z s t p q = results_apart answered refused (λ b. b.number) (λ b. b.pattern) (λ x. refl) (λ n. refl) (λ x. refl) y z (p ∙ sym q)
