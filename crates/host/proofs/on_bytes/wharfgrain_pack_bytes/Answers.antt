-- `host::on_bytes::wharfgrain_pack_bytes` meets its contract. Assumes nothing.
use Rattle.bytearrays.specs.Calls.{pack_bytes_reported, pack_bytes_afterwards}
use Rattle.host.proofs.PassedOn.{coding_passed, coding_reported}
use Rattle.host.proofs.on_bytes.wharfgrain_pack_bytes.Goals as goal

pub returns-clause-answer : goal.returns-clause-answer
returns-clause-answer c = search (coding_reported pack_bytes_reported)

pub returns-clause-written : goal.returns-clause-written
returns-clause-written c = search (coding_passed pack_bytes_afterwards)
