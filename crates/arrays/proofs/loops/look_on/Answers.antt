-- `arrays::loops::look_on` meets its contract. Assumes nothing.
use borrow.Author.Rules.{rules}
use Rattle.sweeps.proofs.StretchEnds.{fewer_left}
use Rattle.arrays.proofs.Turns.{ends_within, all_rounded}
use Rattle.arrays.proofs.Sweeps.{rounded_if_true}
use Rattle.arrays.proofs.loops.look_on.Goals as goal

pub sweep-requires-clause-ends : goal.sweep-requires-clause-ends
sweep-requires-clause-ends g c = search ends_within

pub look_up-requires-clause-ends : goal.look_up-requires-clause-ends
look_up-requires-clause-ends g c = search ends_within

pub look_up-requires-else-patience-eq0-clause-ends : goal.look_up-requires-else-patience-eq0-clause-ends
look_up-requires-else-patience-eq0-clause-ends g c = search ends_within

pub loop-i-smaller-then-sweep : goal.loop-i-smaller-then-sweep
loop-i-smaller-then-sweep g c = search fewer_left

pub loop-i-preserved-then-sweep : goal.loop-i-preserved-then-sweep
loop-i-preserved-then-sweep g c = (search ends_within, search rules, search rounded_if_true, search rules)

pub loop-i-smaller-else-sweep : goal.loop-i-smaller-else-sweep
loop-i-smaller-else-sweep g c = search fewer_left

pub loop-i-preserved-else-sweep : goal.loop-i-preserved-else-sweep
loop-i-preserved-else-sweep g c = (search ends_within, search rules, search rules, search rules)

pub loop-i-smaller : goal.loop-i-smaller
loop-i-smaller g c = search fewer_left

pub loop-i-preserved : goal.loop-i-preserved
loop-i-preserved g c = (search ends_within, search rules, search rules, search rules)

pub returns-clause-written : goal.returns-clause-written
returns-clause-written g c = search all_rounded
