-- `places::moved_up` meets its contract. Assumes nothing.
use mathlib.Core.Path.{refl, sym}
use Rattle.laws.proofs.Words.{moved_past}
use Rattle.places.specs.Places.{moved_up}
use Rattle.places.proofs.moved_up.Goals as goal

pub returns-then-d-gt63 : goal.returns-then-d-gt63
unfolding moved_up
returns-then-d-gt63 c = sym (moved_past 64 c.args.w c.args.d c.if-d-gt63.true)

pub returns : goal.returns
unfolding moved_up
returns c = refl
