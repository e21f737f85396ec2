-- `arrays::looking::Tables::round_at` meets its contract. Assumes nothing.
use Rattle.arrays.proofs.Turns.{rounded_there, looked_up_there}
use Rattle.arrays.proofs.looking.Tables.round_at.Goals as goal

pub returns-then-place-lt64 : goal.returns-then-place-lt64
returns-then-place-lt64 g c = search looked_up_there

pub returns : goal.returns
returns g c = search rounded_there
