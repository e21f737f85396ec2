-- `rounding::derived::settings_of` meets its contract. Assumes nothing.
use native.Mathlib.Omega.{arith}
use Rattle.grid.specs.Formats.{InRange}
use Rattle.grid.proofs.Ranges.{in_range_bounds}
use Rattle.rounding.proofs.Settings.{settings_are}
use Rattle.rounding.proofs.derived.settings_of.Goals as goal

pub overflow_sub-result : goal.overflow_sub-result
overflow_sub-result c =
    let r : InRange c.args.f = search in_range_bounds in
    omega arith

pub overflow_sub-result-2 : goal.overflow_sub-result-2
overflow_sub-result-2 c =
    let r : InRange c.args.f = search in_range_bounds in
    omega arith

pub returns : goal.returns
returns c = search settings_are
