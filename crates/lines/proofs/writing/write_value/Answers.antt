-- `lines::writing::write_value` meets its contract. Assumes nothing.
use Rattle.lines.proofs.Written.{value_written}
use Rattle.lines.proofs.writing.write_value.Goals as goal

pub returns : goal.returns
returns c = search value_written
