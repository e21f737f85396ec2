-- `arrays::calls::round_array` meets its contract. Assumes nothing.
use Rattle.std.proofs.Common.{rules}
use Rattle.arrays.proofs.WholeCalls.{ready_lengths, ready_words, ready-report, ready_with_words, ready_without_words, refused-report, refused_output}
use Rattle.arrays.proofs.calls.round_array.Goals as goal

pub returns-in_err-s-clause-answer : goal.returns-in_err-s-clause-answer
returns-in_err-s-clause-answer g c = search (rules, refused-report)

pub returns-in_err-s-clause-written : goal.returns-in_err-s-clause-written
returns-in_err-s-clause-written g c = search (rules, refused_output)

pub invariant_of-round_all : goal.invariant_of-round_all
invariant_of-round_all g c = search (ready_words, c.in_ok-s.ensures)

pub round_all-requires : goal.round_all-requires
round_all-requires g c = search (ready_lengths, c.in_ok-s.ensures)

pub returns-then-uses_word-clause-answer : goal.returns-then-uses_word-clause-answer
returns-then-uses_word-clause-answer g c = search (ready-report, c.in_ok-s.ensures)

pub returns-then-uses_word-clause-written : goal.returns-then-uses_word-clause-written
returns-then-uses_word-clause-written g c = search (ready_with_words, c.in_ok-s.ensures)

pub round_all-requires-2 : goal.round_all-requires-2
round_all-requires-2 g c = search (ready_lengths, c.in_ok-s.ensures)

pub returns-clause-answer : goal.returns-clause-answer
returns-clause-answer g c = search (ready-report, c.in_ok-s.ensures)

pub returns-clause-written : goal.returns-clause-written
returns-clause-written g c = search (ready_without_words, c.in_ok-s.ensures)
