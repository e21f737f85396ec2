-- `sweeps::derived::Sound::paint_below_normal` meets its contract. Assumes nothing.
use Rattle.sweeps.proofs.Fitting.{start_large}
use Rattle.sweeps.proofs.Painting.{least_within, bottom_fits, falls_enough, first_within, falls_near, below_normal_painted}
use Rattle.sweeps.proofs.derived.Sound.paint_below_normal.Goals as goal

pub paint-kept-requires : goal.paint-kept-requires
paint-kept-requires c = search first_within

pub overflow_sub-s : goal.overflow_sub-s
overflow_sub-s c = search start_large

pub overflow_add-s : goal.overflow_add-s
overflow_add-s c = search bottom_fits

pub paint_falling-requires-clause-ends : goal.paint_falling-requires-clause-ends
paint_falling-requires-clause-ends c = search least_within

pub paint_falling-requires-clause-falls : goal.paint_falling-requires-clause-falls
paint_falling-requires-clause-falls c = search falls_enough

pub paint_falling-requires-clause-near : goal.paint_falling-requires-clause-near
paint_falling-requires-clause-near c = search falls_near

pub returns : goal.returns
returns c = search below_normal_painted
