-- `sweeps::derived::Sound::most` meets its contract. Assumes nothing.
use Rattle.sweeps.proofs.Fitting.{top_some, most-steady, most_else}
use Rattle.sweeps.proofs.derived.Sound.most.Goals as goal

pub overflow_sub-result : goal.overflow_sub-result
overflow_sub-result c = search top_some

pub returns-then-is_steady : goal.returns-then-is_steady
returns-then-is_steady c = search most-steady

pub returns : goal.returns
returns c = search most_else
