-- Every promise of this crate leaves one answer: two results that it allows for the same arguments are equal. Each is an
-- equation with the definition that the contract names, so two of them meet there. Assumes nothing.
use mathlib.Core.Path.{sym, ◌∙◌}
use Rattle.laws.specs.Promises.{OneAnswer}
use Rattle.magnitudes.proofs.modes.mode_of.Reads as mode_of
use Rattle.magnitudes.proofs.modes.increment_at.Reads as increment_at
use Rattle.magnitudes.proofs.modes.overflows_to_infinity.Reads as overflows_to_infinity
use Rattle.magnitudes.proofs.destinations.round_magnitude.Reads as round_magnitude

pub mode_of_unique : OneAnswer mode_of.Post
mode_of_unique κs a y z s t p q = p ∙ sym q

pub increment_at_unique : OneAnswer increment_at.Post
increment_at_unique κs a y z s t p q = p ∙ sym q

pub overflows_to_infinity_unique : OneAnswer overflows_to_infinity.Post
overflows_to_infinity_unique κs a y z s t p q = p ∙ sym q

pub round_magnitude_unique : OneAnswer round_magnitude.Post
round_magnitude_unique κs a y z s t p q = p ∙ sym q
