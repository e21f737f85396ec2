-- `grid::formats::zeta_exponent` meets its contract. Assumes nothing.
use native.Mathlib.Omega.{arith}
use Rattle.grid.specs.Formats.{InRange}
use Rattle.grid.proofs.Landmarks.{exponent_out_of_range, range_passed, zeta-exponent-sub, zeta-exponent_no_sub}
use Rattle.grid.proofs.formats.zeta_exponent.Goals as goal

pub overflow_sub-result : goal.overflow_sub-result
overflow_sub-result c =
    let r : InRange c.args.f = search range_passed in
    omega arith

pub overflow_sub-result-then-f : goal.overflow_sub-result-then-f
overflow_sub-result-then-f c =
    let r : InRange c.args.f = search range_passed in
    omega arith

pub returns-then-f : goal.returns-then-f
returns-then-f c = search zeta-exponent-sub

pub overflow_sub-result-then-in_range : goal.overflow_sub-result-then-in_range
overflow_sub-result-then-in_range c =
    let r : InRange c.args.f = search range_passed in
    omega arith

pub returns-then-in_range : goal.returns-then-in_range
returns-then-in_range c = search zeta-exponent_no_sub

pub returns : goal.returns
returns c = search exponent_out_of_range
