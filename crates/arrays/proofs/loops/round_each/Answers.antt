-- `arrays::loops::round_each` meets its contract. Assumes nothing.
use native.Mathlib.Nat.{le_refl}
use lib.ListN.{length}
use borrow.Author.Rules.{rules}
use Rattle.arrays.proofs.Turns.{stored_long, one_more_rounded, all_rounded}
use Rattle.arrays.proofs.loops.round_each.Goals as goal

pub loop-i-preserved : goal.loop-i-preserved
loop-i-preserved g c =
    let words = g.T.Entry.words in
    let inputs = c.args.inputs.now in (
      search rules,
      search stored_long,
      search
          (one_more_rounded c.args.s (words inputs.words.now) (words inputs.xs.now) (words c.loop-i.out) c.loop-i.i (search rules) (search rules)
          (length (words inputs.xs.now)) (search rules) (le_refl (length (words inputs.xs.now)))),
      search rules,
    )

pub returns-clause-written : goal.returns-clause-written
returns-clause-written g c = search (all_rounded, rules)
