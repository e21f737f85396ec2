-- `sweeps::rows::added_behind` meets its contract. Assumes nothing.
use Rattle.sweeps.proofs.RowWords.{nothing_behind, infinity-behind, xmax-behind}
use Rattle.sweeps.proofs.rows.added_behind.Goals as goal

pub returns-then-d-lt63 : goal.returns-then-d-lt63
returns-then-d-lt63 c = search nothing_behind

pub returns-then-overflows_to_infinity : goal.returns-then-overflows_to_infinity
returns-then-overflows_to_infinity c = search infinity-behind

pub returns : goal.returns
returns c = search xmax-behind
