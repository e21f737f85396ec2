-- `layouts::derived::layout_of` meets its contract. Assumes nothing.
use lib.Dec.{lit<}
use Rattle.layouts.proofs.Layouts.{layout_is}
use Rattle.layouts.proofs.derived.layout_of.Goals as goal

pub returns : goal.returns
returns c = search (layout_is, lit<)
