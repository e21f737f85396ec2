-- `jobtext::answers::print_outcome` meets its contract. Assumes nothing.
use Rattle.jobtext.proofs.WholeAnswers.{printed-accepted, printed-refused}
use Rattle.jobtext.proofs.answers.print_outcome.Goals as goal

pub returns-in-Ok : goal.returns-in-Ok
returns-in-Ok c = search printed-accepted

pub returns-in-Err : goal.returns-in-Err
returns-in-Err c = search printed-refused
