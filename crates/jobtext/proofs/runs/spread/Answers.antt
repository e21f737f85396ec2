-- `jobtext::runs::spread` meets its contract. Assumes nothing.
use Rattle.jobtext.proofs.Spreads.{nothing_spread, one_more_spread, all_spread}
use Rattle.jobtext.proofs.runs.spread.Goals as goal

pub loop-i-init : goal.loop-i-init
loop-i-init c = search nothing_spread

pub loop-i-preserved : goal.loop-i-preserved
loop-i-preserved c = search one_more_spread

pub returns : goal.returns
returns c = search (all_spread, c.loop-i.invariant)
