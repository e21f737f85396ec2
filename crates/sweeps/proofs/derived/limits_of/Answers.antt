-- `sweeps::derived::limits_of` meets its contract. Assumes nothing.
use Rattle.std.proofs.Common.{rules}
use Rattle.sweeps.proofs.Fitting.{limits_else}
use Rattle.sweeps.proofs.derived.limits_of.Goals as goal

pub returns : goal.returns
returns c = search (rules, limits_else)
