-- `magnitudes::destinations::round_kept` meets its contract. Assumes nothing.
use Rattle.magnitudes.proofs.BySettings.{kept-fits, kept_is}
use Rattle.magnitudes.proofs.destinations.round_kept.Goals as goal

pub overflow_add-sum : goal.overflow_add-sum
overflow_add-sum c = search kept-fits

pub returns : goal.returns
returns c = search kept_is
