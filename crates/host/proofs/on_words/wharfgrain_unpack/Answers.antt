-- `host::on_words::wharfgrain_unpack` meets its contract. Assumes nothing.
use Rattle.codearrays.specs.Codes.{unpack_reported, unpack_afterwards}
use Rattle.host.proofs.PassedOn.{coding_passed, coding_reported}
use Rattle.host.proofs.on_words.wharfgrain_unpack.Goals as goal

pub returns-clause-answer : goal.returns-clause-answer
returns-clause-answer c = search (coding_reported unpack_reported)

pub returns-clause-written : goal.returns-clause-written
returns-clause-written c = search (coding_passed unpack_afterwards)
