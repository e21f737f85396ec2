-- `jobtext::runs::run_places` meets its contract. Assumes nothing.
use Rattle.jobtext.proofs.Values.{answer_by_places}
use Rattle.jobtext.proofs.runs.run_places.Goals as goal

pub returns : goal.returns
returns c = search answer_by_places
