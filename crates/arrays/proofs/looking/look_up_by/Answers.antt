-- `arrays::looking::look_up_by` meets its contract. Assumes nothing.
use borrow.Author.Rules.{rules}
use Rattle.arrays.proofs.Turns.{stored_long, one_more_made}
use Rattle.arrays.proofs.looking.look_up_by.Goals as goal

pub loop-i-preserved : goal.loop-i-preserved
loop-i-preserved g c =
    let words = g.T.Entry.words in
    let inputs = c.args.inputs.now in (
      search stored_long,
      one_more_made c.args.t.now.settings (words inputs.words.now) (words inputs.xs.now) (words c.loop-i.out) c.loop-i.i (search rules) (search rules)
          c.args.stretch.end (search rules) c.requires.ends c.round_at.result (search rules) (words c.put.new.entries) (search rules),
      search rules,
    )
