-- `host::on_words::wharfgrain_round` meets its contract. Assumes nothing.
use Rattle.arrays.specs.Rounding.{reported, afterwards}
use Rattle.host.proofs.PassedOn.{rounding_passed, rounding_reported}
use Rattle.host.proofs.on_words.wharfgrain_round.Goals as goal

pub returns-clause-answer : goal.returns-clause-answer
returns-clause-answer c = search (rounding_reported reported)

pub returns-clause-written : goal.returns-clause-written
returns-clause-written c = search (rounding_passed afterwards)
