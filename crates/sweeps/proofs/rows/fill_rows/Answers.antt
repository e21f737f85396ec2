-- `sweeps::rows::fill_rows` meets its contract. Assumes nothing.
use Rattle.sweeps.proofs.RowFills.{first_fits, first_some, first_within, first_few, rows_filled}
use Rattle.sweeps.proofs.rows.fill_rows.Goals as goal

pub overflow_mul-first : goal.overflow_mul-first
overflow_mul-first c = search first_fits

pub blank_rows-requires-clause-starts : goal.blank_rows-requires-clause-starts
blank_rows-requires-clause-starts c = search first_some

pub blank_rows-requires-clause-ends : goal.blank_rows-requires-clause-ends
blank_rows-requires-clause-ends c = search first_within

pub put_rows-requires-2-clause-starts : goal.put_rows-requires-2-clause-starts
put_rows-requires-2-clause-starts c = search first_few

pub returns : goal.returns
returns c = search rows_filled
