-- The promises of the calls on bytes leave one outcome: one report, and one list in `out`, the last parameter of each. Assumes
-- nothing.
use mathlib.Core.Path.{sym, ◌∙◌}
use Rattle.laws.specs.Promises.{OneOutcome}
use Rattle.reports.proofs.Apart.{reports_apart}
use Rattle.bytearrays.proofs.round.round_bytes.Reads as round_bytes
use Rattle.bytearrays.proofs.packing.pack_bytes.Reads as pack_bytes
use Rattle.bytearrays.proofs.packing.unpack_bytes.Reads as unpack_bytes

pub round_bytes_unique : OneOutcome round_bytes.Post (λ κs lent. lent.1.1.1.1.1.0.now)
round_bytes_unique κs a y z s t p q = (reports_apart y z (p.0 ∙ sym q.0), p.1 ∙ sym q.1)

pub pack_bytes_unique : OneOutcome pack_bytes.Post (λ κs lent. lent.1.1.0.now)
pack_bytes_unique κs a y z s t p q = (reports_apart y z (p.0 ∙ sym q.0), p.1 ∙ sym q.1)

pub unpack_bytes_unique : OneOutcome unpack_bytes.Post (λ κs lent. lent.1.1.0.now)
unpack_bytes_unique κs a y z s t p q = (reports_apart y z (p.0 ∙ sym q.0), p.1 ∙ sym q.1)
