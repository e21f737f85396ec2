-- `places::low_part` meets its contract. Assumes nothing.
use borrow.Author.Rules.{rules}
use mathlib.Core.Path.{sym}
use Rattle.laws.proofs.Words.{one_shifted_some, low_past, low_masked}
use Rattle.places.specs.Places.{low}
use Rattle.places.proofs.low_part.Goals as goal

pub overflow_sub-result : goal.overflow_sub-result
overflow_sub-result c = one_shifted_some 64 c.args.d c.if-d-lt64.true

pub returns-then-d-lt64 : goal.returns-then-d-lt64
unfolding low
returns-then-d-lt64 c = low_masked 64 c.args.n c.args.d c.if-d-lt64.true

pub returns : goal.returns
unfolding low
returns c = sym (low_past 64 c.args.n c.args.d (search rules) c.if-d-lt64.false)
