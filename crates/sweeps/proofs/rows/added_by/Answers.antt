-- `sweeps::rows::added_by` meets its contract. Assumes nothing.
use Rattle.sweeps.proofs.RowWords.{share_added, all_added}
use Rattle.sweeps.proofs.rows.added_by.Goals as goal

pub returns-then-adds_share : goal.returns-then-adds_share
returns-then-adds_share c = search share_added

pub returns : goal.returns
returns c = search all_added
