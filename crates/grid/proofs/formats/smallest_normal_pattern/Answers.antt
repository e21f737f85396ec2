-- `grid::formats::smallest_normal_pattern` meets its contract. Assumes nothing.
use native.Mathlib.Omega.{arith}
use Rattle.grid.specs.Formats.{InRange}
use Rattle.grid.proofs.Landmarks.{pattern_out_of_range, range_passed, smallest_normal_pattern_is}
use Rattle.grid.proofs.formats.smallest_normal_pattern.Goals as goal

pub overflow_sub-f : goal.overflow_sub-f
overflow_sub-f c =
    let r : InRange c.args.f = search range_passed in
    omega arith

pub returns-then-in_range : goal.returns-then-in_range
returns-then-in_range c = search smallest_normal_pattern_is

pub returns : goal.returns
returns c = search pattern_out_of_range
