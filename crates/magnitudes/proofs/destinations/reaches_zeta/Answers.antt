-- `magnitudes::destinations::reaches_zeta` meets its contract. Assumes nothing.
use Rattle.std.proofs.Common.{rules}
use Rattle.magnitudes.proofs.BySettings.{reached-fits, reached_is}
use Rattle.magnitudes.proofs.destinations.reaches_zeta.Goals as goal

pub overflow_add-result : goal.overflow_add-result
overflow_add-result c = search (reached-fits, rules)

pub returns : goal.returns
returns c = search reached_is
