-- `jobtext::runs::spread` meets its contract. Assumes nothing.
use Rattle.laws.specs.Fills.{FilledTo}
use Rattle.jobtext.proofs.Spreads.{spread_at}
use Rattle.jobtext.proofs.runs.spread.Given as goal

abbrev pub invariant-loop-i : goal.invariant-loop-i
invariant-loop-i l = FilledTo (spread_at l.values l.from l.apart) l.i l.out
