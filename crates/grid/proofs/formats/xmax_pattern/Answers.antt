-- `grid::formats::xmax_pattern` meets its contract. Assumes nothing.
use native.Mathlib.Omega.{arith}
use lib.Dec.{lit≤, lit<}
use Rattle.laws.proofs.Words.{shifted_not_above}
use Rattle.grid.specs.Formats.{InRange}
use Rattle.grid.proofs.Landmarks.{pattern_out_of_range, range_passed, top_pattern_large, xmax_pattern_is}
use Rattle.grid.proofs.formats.xmax_pattern.Goals as goal

pub overflow_sub-result : goal.overflow_sub-result
overflow_sub-result c =
    let r : InRange c.args.f = search range_passed in
    omega arith

pub overflow_sub-result-then-in_range : goal.overflow_sub-result-then-in_range
overflow_sub-result-then-in_range c = shifted_not_above 64 _ _ 1 60 _ (lit≤ tt) (omega arith) (search top_pattern_large)

pub returns-then-in_range : goal.returns-then-in_range
returns-then-in_range c = search (xmax_pattern_is, lit<)

pub returns : goal.returns
returns c = search pattern_out_of_range
