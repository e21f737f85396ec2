-- `lines::writing::write_digits` meets its contract. Assumes nothing.
use lib.ListN.{length-set}
use borrow.Author.Rules.{rules}
use Rattle.lines.proofs.Written.{digits_left, none_written, one-less_left, one_more_written, all_written}
use Rattle.lines.proofs.writing.write_digits.Goals as goal

pub loop-i-init : goal.loop-i-init
loop-i-init c = (search rules, search rules, search digits_left, search none_written)

pub loop-i-preserved : goal.loop-i-preserved
loop-i-preserved c = (search rules, simp length-set (search rules), search one-less_left, search one_more_written)

pub returns : goal.returns
returns c = search all_written
