-- The promise of laying out leaves one answer. Assumes nothing.
use mathlib.Core.Path.{refl, sym, ◌∙◌}
use Rattle.laws.specs.Promises.{OneAnswer}
use Rattle.refusals.proofs.Apart.{results_apart}
use Rattle.layouts.specs.Layouts.{ready, refused}
use Rattle.layouts.proofs.derived.lay_out.Reads as lay_out

pub lay_out_unique : OneAnswer lay_out.Post
lay_out_unique κs a y z s t p q =
    results_apart ready refused (λ l. l.number) (λ l. l.layout) (λ y. refl) (λ n. refl) (λ y. refl) y z (p ∙ sym q)
