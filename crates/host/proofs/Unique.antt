-- Every entry point leaves one outcome: one answer and, of the array calls, one list in `out`, the last parameter of each. Assumes
-- nothing.
use mathlib.Core.Path.{sym, ◌∙◌}
use Rattle.laws.specs.Promises.{OneAnswer, OneOutcome}
use Rattle.host.proofs.formats.wharfgrain_known.Reads as wharfgrain_known
use Rattle.host.proofs.on_words.wharfgrain_round.Reads as wharfgrain_round
use Rattle.host.proofs.on_words.wharfgrain_pack.Reads as wharfgrain_pack
use Rattle.host.proofs.on_words.wharfgrain_unpack.Reads as wharfgrain_unpack
use Rattle.host.proofs.on_bytes.wharfgrain_round_bytes.Reads as wharfgrain_round_bytes
use Rattle.host.proofs.on_bytes.wharfgrain_pack_bytes.Reads as wharfgrain_pack_bytes
use Rattle.host.proofs.on_bytes.wharfgrain_unpack_bytes.Reads as wharfgrain_unpack_bytes

pub wharfgrain_known_unique : OneAnswer wharfgrain_known.Post
wharfgrain_known_unique κs a y z s t p q = p ∙ sym q

pub wharfgrain_round_unique : OneOutcome wharfgrain_round.Post (λ κs lent. lent.1.1.1.1.1.1.1.0.now)
wharfgrain_round_unique κs a y z s t p q = (p.0 ∙ sym q.0, p.1 ∙ sym q.1)

pub wharfgrain_pack_unique : OneOutcome wharfgrain_pack.Post (λ κs lent. lent.1.1.1.1.0.now)
wharfgrain_pack_unique κs a y z s t p q = (p.0 ∙ sym q.0, p.1 ∙ sym q.1)

pub wharfgrain_unpack_unique : OneOutcome wharfgrain_unpack.Post (λ κs lent. lent.1.1.1.1.0.now)
wharfgrain_unpack_unique κs a y z s t p q = (p.0 ∙ sym q.0, p.1 ∙ sym q.1)

pub wharfgrain_round_bytes_unique : OneOutcome wharfgrain_round_bytes.Post (λ κs lent. lent.1.1.1.1.1.1.1.0.now)
wharfgrain_round_bytes_unique κs a y z s t p q = (p.0 ∙ sym q.0, p.1 ∙ sym q.1)

pub wharfgrain_pack_bytes_unique : OneOutcome wharfgrain_pack_bytes.Post (λ κs lent. lent.1.1.1.1.0.now)
wharfgrain_pack_bytes_unique κs a y z s t p q = (p.0 ∙ sym q.0, p.1 ∙ sym q.1)

pub wharfgrain_unpack_bytes_unique : OneOutcome wharfgrain_unpack_bytes.Post (λ κs lent. lent.1.1.1.1.0.now)
wharfgrain_unpack_bytes_unique κs a y z s t p q = (p.0 ∙ sym q.0, p.1 ∙ sym q.1)
