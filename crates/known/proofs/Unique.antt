-- The promise of the lookup leaves one answer. Assumes nothing.
use mathlib.Core.Path.{refl, sym, ◌∙◌}
use Rattle.laws.specs.Promises.{OneAnswer}
use Rattle.refusals.proofs.Apart.{results_apart}
use Rattle.known.specs.Table.{with_format, refused}
use Rattle.known.proofs.known_format.Reads as known_format

pub known_format_unique : OneAnswer known_format.Post
known_format_unique κs a y z s t p q =
    results_apart with_format refused (λ l. l.number) (λ l. l.format) (λ f. refl) (λ n. refl) (λ f. refl) y z (p ∙ sym q)
