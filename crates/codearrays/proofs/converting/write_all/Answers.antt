-- `codearrays::converting::write_all` meets its contract. Assumes nothing.
use mathlib.Core.Path.{ap, ◌∙◌}
use lib.ListN.{length, length-set}
use borrow.Author.Rules.{rules}
use Rattle.codearrays.proofs.Turns.{one_more_written, all_written}
use Rattle.codearrays.proofs.converting.write_all.Goals as goal

pub loop-i-preserved : goal.loop-i-preserved
loop-i-preserved g c = (
  ap length c.put.ensures.written ∙ simp length-set c.loop-i.invariant.0,
  λ refuses writes follows.
      let before = c.loop-i.invariant.1 refuses writes follows in
      let made = c.unwrap_or.ensures ∙ follows.made _ _ c.convert.ensures in
      search (one_more_written, rules),
  c.put.ensures.rest ∙ c.loop-i.invariant.2,
)

pub returns-clause-written : goal.returns-clause-written
returns-clause-written g c refuses writes follows =
    let all = c.loop-i.invariant.1 refuses writes follows in
    search (all_written, rules)
