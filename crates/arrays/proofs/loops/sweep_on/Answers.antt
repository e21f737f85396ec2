-- `arrays::loops::sweep_on` meets its contract. Assumes nothing.
use borrow.Author.Rules.{rules}
use Rattle.sweeps.proofs.StretchEnds.{fewer_left}
use Rattle.arrays.proofs.Turns.{nothing_rounded, ends_within}
use Rattle.arrays.proofs.Sweeps.{rounded_if_true}
use Rattle.arrays.proofs.loops.sweep_on.Goals as goal

pub loop-from-init : goal.loop-from-init
loop-from-init g c = (search rules, search rules, search nothing_rounded, search rules)

pub sweep-requires-clause-ends : goal.sweep-requires-clause-ends
sweep-requires-clause-ends g c = search ends_within

pub loop-from-smaller : goal.loop-from-smaller
loop-from-smaller g c = search fewer_left

pub loop-from-preserved : goal.loop-from-preserved
loop-from-preserved g c = (search ends_within, search rules, search rounded_if_true, search rules)
