-- `sweeps::rows::last_digit` meets its contract. Assumes nothing.
use Rattle.sweeps.proofs.RowWords.{last_digit-one, last_digit_bit}
use Rattle.sweeps.proofs.rows.last_digit.Goals as goal

pub returns-then-d-eq52 : goal.returns-then-d-eq52
returns-then-d-eq52 c = search last_digit-one

pub returns : goal.returns
returns c = search last_digit_bit
