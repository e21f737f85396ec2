-- `sweeps::rows::put_row` meets its contract. Assumes nothing.
use Rattle.sweeps.proofs.RowFills.{row_place, row_stored}
use Rattle.sweeps.proofs.rows.put_row.Goals as goal

pub overflow_sub-rows : goal.overflow_sub-rows
overflow_sub-rows c = search row_place

pub returns : goal.returns
returns c = search row_stored
