-- `jobtext::runs::run_values` meets its contract. Assumes nothing.
use Rattle.std.proofs.lemmas.List.{take-replicate}
use Rattle.jobtext.proofs.runs.run_values.Goals as goal

pub run_places-requires-clause-outputs : goal.run_places-requires-clause-outputs
run_places-requires-clause-outputs c = search take-replicate

pub run_places-requires-else-has_words-clause-outputs : goal.run_places-requires-else-has_words-clause-outputs
run_places-requires-else-has_words-clause-outputs c = search take-replicate
