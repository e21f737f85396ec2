-- `lines::writing::write_line` meets its contract. Assumes nothing.
use Rattle.lines.proofs.Written.{key_taken, key_kept, value_taken, value-kept, line_taken, line-written}
use Rattle.lines.proofs.writing.write_line.Goals as goal

pub returns-then-out-from-clause-answer : goal.returns-then-out-from-clause-answer
returns-then-out-from-clause-answer c = search key_taken

pub returns-then-out-from-clause-written : goal.returns-then-out-from-clause-written
returns-then-out-from-clause-written c = search key_kept

pub returns-then-out-from-2-clause-answer : goal.returns-then-out-from-2-clause-answer
returns-then-out-from-2-clause-answer c = search value_taken

pub returns-then-out-from-2-clause-written : goal.returns-then-out-from-2-clause-written
returns-then-out-from-2-clause-written c = search value-kept

pub returns-clause-answer : goal.returns-clause-answer
returns-clause-answer c = search line_taken

pub returns-clause-written : goal.returns-clause-written
returns-clause-written c = search line-written
