-- `magnitudes::modes::increment_of` meets its contract. Assumes nothing.
use Rattle.magnitudes.proofs.Increments.{ties_to_even_adds, to_odd_adds}
use Rattle.magnitudes.proofs.modes.increment_of.Goals as goal

pub returns-in-TiesToEven : goal.returns-in-TiesToEven
returns-in-TiesToEven c = search ties_to_even_adds

pub returns-in-ToOdd : goal.returns-in-ToOdd
returns-in-ToOdd c = search to_odd_adds
