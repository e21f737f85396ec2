-- `sweeps::rows::added_before` meets its contract. Assumes nothing.
use Rattle.laws.proofs.Words.{one_shifted_some}
use Rattle.sweeps.proofs.RowWords.{nothing_before, share_before, increment_before}
use Rattle.sweeps.proofs.rows.added_before.Goals as goal

pub returns-then-d-eq63 : goal.returns-then-d-eq63
returns-then-d-eq63 c = search nothing_before

pub overflow_sub-result : goal.overflow_sub-result
overflow_sub-result c = search one_shifted_some

pub returns-then-adds_share : goal.returns-then-adds_share
returns-then-adds_share c = search share_before

pub returns : goal.returns
returns c = search increment_before
