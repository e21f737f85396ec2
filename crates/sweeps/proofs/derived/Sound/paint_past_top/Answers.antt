-- `sweeps::derived::Sound::paint_past_top` meets its contract. Assumes nothing.
use Rattle.sweeps.proofs.Painting.{past_top_painted}
use Rattle.sweeps.proofs.derived.Sound.paint_past_top.Goals as goal

pub returns : goal.returns
returns c = search past_top_painted
