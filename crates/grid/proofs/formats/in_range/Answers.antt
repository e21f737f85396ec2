-- `grid::formats::in_range` meets its contract. Assumes nothing.
use Rattle.grid.proofs.Ranges.{in_range_asked, in_range_failed}
use Rattle.grid.proofs.formats.in_range.Goals as goal

pub returns-then-precision_fits : goal.returns-then-precision_fits
returns-then-precision_fits c = search in_range_asked

pub returns-else-precision_fits : goal.returns-else-precision_fits
returns-else-precision_fits c = search in_range_failed
