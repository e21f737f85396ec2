-- `jobtext::answers::print_refused` meets its contract. Assumes nothing.
use mathlib.Core.Path.{sym}
use Rattle.jobtext.proofs.WholeAnswers.{first_fits, place_fits, refused_printed}
use Rattle.jobtext.proofs.answers.print_refused.Goals as goal

pub add-requires : goal.add-requires
add-requires c = search first_fits

pub add-requires-2 : goal.add-requires-2
add-requires-2 c = search place_fits

pub returns : goal.returns
returns c = rw (sym c.number.ensures) (search refused_printed)
