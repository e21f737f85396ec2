-- `jobtext::answers::print_accepted` meets its contract. Assumes nothing.
use Rattle.jobtext.proofs.WholeAnswers.{first_fits, count_fits, heads_printed, pattern_fits, pattern_printed, accepted_printed}
use Rattle.jobtext.proofs.answers.print_accepted.Goals as goal

pub add-requires : goal.add-requires
add-requires c = search first_fits

pub add-requires-2 : goal.add-requires-2
add-requires-2 c = search count_fits

pub loop-y-init : goal.loop-y-init
loop-y-init c = search heads_printed

pub add-requires-in-loop-y : goal.add-requires-in-loop-y
add-requires-in-loop-y c = search pattern_fits

pub loop-y-preserved : goal.loop-y-preserved
loop-y-preserved c = search pattern_printed

pub returns : goal.returns
returns c = search accepted_printed
