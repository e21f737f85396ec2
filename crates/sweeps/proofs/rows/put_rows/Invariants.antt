-- `sweeps::rows::put_rows` meets its contract. Assumes nothing.
use Rattle.std.proofs.Common.{◌*◌}
use Rattle.sweeps.specs.Rules.{Painted}
use Rattle.sweeps.specs.Rows.{row_of}
use Rattle.sweeps.proofs.rows.put_rows.Given as goal

abbrev pub invariant-loop-i : goal.invariant-loop-i
invariant-loop-i l = Painted (row_of l.s) (4 * l.from) (4 * l.i) l.initial.rows l.rows
