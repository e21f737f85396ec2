-- `magnitudes::modes::share` meets its contract. Assumes nothing.
use Rattle.magnitudes.proofs.Increments.{share_moved, share_whole}
use Rattle.magnitudes.proofs.modes.share.Goals as goal

pub returns-then-r-lt64 : goal.returns-then-r-lt64
returns-then-r-lt64 c = search share_moved

pub returns : goal.returns
returns c = search share_whole
