-- The promise of `number` leaves one answer. Assumes nothing.
use mathlib.Core.Path.{sym, ◌∙◌}
use Rattle.laws.specs.Promises.{OneAnswer}
use Rattle.refusals.proofs.Refusal.number.Reads as number

pub number_unique : OneAnswer number.Post
number_unique κs a y z s t p q = p ∙ sym q
