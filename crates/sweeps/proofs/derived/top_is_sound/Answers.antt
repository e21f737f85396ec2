-- `sweeps::derived::top_is_sound` meets its contract. Assumes nothing.
use Rattle.sweeps.proofs.Soundness.{top_too_high, top_no_power, top_too_low, shifted_below_top, top_asked}
use Rattle.sweeps.proofs.derived.top_is_sound.Goals as goal

pub returns-then-top-gt-INFINITY : goal.returns-then-top-gt-INFINITY
returns-then-top-gt-INFINITY c = search top_too_high

pub returns-then-top-ne0 : goal.returns-then-top-ne0
returns-then-top-ne0 c = search top_no_power

pub returns-then-top-emin : goal.returns-then-top-emin
returns-then-top-emin c = search top_too_low

pub overflow_sub-result : goal.overflow_sub-result
overflow_sub-result c = search shifted_below_top

pub returns : goal.returns
returns c = search top_asked
