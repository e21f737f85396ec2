-- `jobtext::runs::print_answer` meets its contract. Assumes nothing.
use mathlib.Core.Path.{◌∙◌}
use Rattle.jobtext.proofs.Texts.{few_places, sound_answer, bad_answer}
use Rattle.jobtext.proofs.runs.print_answer.Goals as goal

pub run_values-requires : goal.run_values-requires
run_values-requires c = search few_places

pub returns-in-Ok : goal.returns-in-Ok
returns-in-Ok c = c.run_values.ensures ∙ search sound_answer

pub returns-in-Err : goal.returns-in-Err
returns-in-Err c = c.print_refused.ensures ∙ search bad_answer
