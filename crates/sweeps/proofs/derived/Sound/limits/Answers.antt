-- `sweeps::derived::Sound::limits` meets its contract. Assumes nothing.
use Rattle.sweeps.proofs.Fitting.{start_large, top_below-sign, top_below-infinity, limits-sound}
use Rattle.sweeps.proofs.derived.Sound.limits.Goals as goal

pub overflow_sub-result : goal.overflow_sub-result
overflow_sub-result c = search start_large

pub overflow_sub-result-2 : goal.overflow_sub-result-2
overflow_sub-result-2 c = search top_below-sign

pub overflow_sub-result-3 : goal.overflow_sub-result-3
overflow_sub-result-3 c = search top_below-infinity

pub returns : goal.returns
returns c = search limits-sound
