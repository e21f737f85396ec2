-- `jobtext::answers::print_accepted` meets its contract. Assumes nothing.
use mathlib.Core.Path.{◌≡◌}
use mathlib.Core.List.{◌++◌}
use lib.ListN.{length, take}
use Rattle.jobtext.specs.Answers.{status_line, count_line, pattern_lines}
use Rattle.jobtext.proofs.answers.print_accepted.Given as goal

abbrev pub invariant-loop-y : goal.invariant-loop-y
invariant-loop-y l = l.page ≡ status_line 0 ++ (count_line (length l.ys) ++ pattern_lines (take l.y-index l.ys))
