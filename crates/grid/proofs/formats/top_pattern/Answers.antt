-- `grid::formats::top_pattern` meets its contract. Assumes nothing.
use native.Mathlib.Omega.{arith}
use Rattle.grid.specs.Formats.{InRange}
use Rattle.grid.proofs.Landmarks.{pattern_out_of_range, range_passed, top_pattern_is}
use Rattle.grid.proofs.formats.top_pattern.Goals as goal

pub overflow_add-f : goal.overflow_add-f
overflow_add-f c =
    let r : InRange c.args.f = search range_passed in
    omega arith

pub returns-then-in_range : goal.returns-then-in_range
returns-then-in_range c = search top_pattern_is

pub returns : goal.returns
returns c = search pattern_out_of_range
