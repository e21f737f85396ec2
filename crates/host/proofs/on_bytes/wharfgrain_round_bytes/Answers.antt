-- `host::on_bytes::wharfgrain_round_bytes` meets its contract. Assumes nothing.
use Rattle.bytearrays.specs.Calls.{round_bytes_reported, round_bytes_afterwards}
use Rattle.host.proofs.PassedOn.{rounding_passed, rounding_reported}
use Rattle.host.proofs.on_bytes.wharfgrain_round_bytes.Goals as goal

pub returns-clause-answer : goal.returns-clause-answer
returns-clause-answer c = search (rounding_reported round_bytes_reported)

pub returns-clause-written : goal.returns-clause-written
returns-clause-written c = search (rounding_passed round_bytes_afterwards)
