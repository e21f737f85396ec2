-- `places::high_part` meets its contract. Assumes nothing.
use borrow.Author.Rules.{rules}
use mathlib.Core.Path.{refl, sym}
use Rattle.laws.proofs.Words.{high_past}
use Rattle.places.specs.Places.{high}
use Rattle.places.proofs.high_part.Goals as goal

pub returns-then-d-lt64 : goal.returns-then-d-lt64
unfolding high
returns-then-d-lt64 c = refl

pub returns : goal.returns
unfolding high
returns c = sym (high_past 64 c.args.n c.args.d (search rules) c.if-d-lt64.false)
