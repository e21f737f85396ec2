-- `host::on_words::wharfgrain_pack` meets its contract. Assumes nothing.
use Rattle.codearrays.specs.Codes.{pack_reported, pack_afterwards}
use Rattle.host.proofs.PassedOn.{coding_passed, coding_reported}
use Rattle.host.proofs.on_words.wharfgrain_pack.Goals as goal

pub returns-clause-answer : goal.returns-clause-answer
returns-clause-answer c = search (coding_reported pack_reported)

pub returns-clause-written : goal.returns-clause-written
returns-clause-written c = search (coding_passed pack_afterwards)
