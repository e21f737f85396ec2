-- `sweeps::rules::fill_places` meets its contract. Assumes nothing.
use Rattle.std.proofs.lemmas.Option.{MatchOption-at_none}
use Rattle.std.proofs.Common.{rules}
use Rattle.sweeps.proofs.Painting.{none_painted}
use Rattle.sweeps.proofs.rules.fill_places.Goals as goal

pub returns-in-None : goal.returns-in-None
returns-in-None c = none_painted c.args.s (MatchOption-at_none _ _ c.in-None.is c.check.ensures) _ _ c.paint.ensures.filled (search rules)
