-- `sweeps::derived::Sound::paint_normal` meets its contract. Assumes nothing.
use Rattle.sweeps.proofs.Fitting.{start_large}
use Rattle.sweeps.proofs.Painting.{top_positive, top_within, before_top_within, cut_fits, normal_painted}
use Rattle.sweeps.proofs.derived.Sound.paint_normal.Goals as goal

pub overflow_sub-s : goal.overflow_sub-s
overflow_sub-s c = search start_large

pub overflow_sub-top : goal.overflow_sub-top
overflow_sub-top c = search top_positive

pub overflow_cast-s : goal.overflow_cast-s
overflow_cast-s c = search cut_fits

pub paint-last-requires : goal.paint-last-requires
paint-last-requires c = search before_top_within

pub paint-requires : goal.paint-requires
paint-requires c = search top_within

pub returns : goal.returns
returns c = search normal_painted
