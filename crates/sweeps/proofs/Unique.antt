-- Every promise of this crate leaves one answer: two results that it allows for the same arguments are equal. Each is an
-- equation with the definition that the contract names, so two of them meet there. Assumes nothing.
use Rattle.std.proofs.Common.{sym, refl, ◌∙◌}
use Rattle.laws.specs.Promises.{OneAnswer, OneOutcome}
use Rattle.sweeps.proofs.stretches.stretch_end.Reads as stretch_end
use Rattle.sweeps.proofs.derived.limits_of.Reads as limits_of
use Rattle.sweeps.proofs.quick.plain.Reads as plain
use Rattle.sweeps.proofs.quick.capped.Reads as capped
use Rattle.sweeps.proofs.rules.place_by.Reads as place_by
use Rattle.sweeps.proofs.rules.fill_places.Reads as fill_places
use Rattle.sweeps.proofs.rows.fill_rows.Reads as fill_rows
use Rattle.sweeps.proofs.rows.by_row.Reads as by_row

pub stretch_end_unique : OneAnswer stretch_end.Post
stretch_end_unique κs a y z s t p q = p ∙ sym q

pub limits_of_unique : OneAnswer limits_of.Post
limits_of_unique κs a y z s t p q = p ∙ sym q

pub plain_unique : OneAnswer plain.Post
plain_unique κs a y z s t p q = p ∙ sym q

pub capped_unique : OneAnswer capped.Post
capped_unique κs a y z s t p q = p ∙ sym q

pub place_by_unique : OneAnswer place_by.Post
place_by_unique κs a y z s t p q = p ∙ sym q

pub by_row_unique : OneAnswer by_row.Post
by_row_unique κs a y z s t p q = p ∙ sym q

-- what stands in the table, the last parameter, as it has been filled
pub fill_places_unique : OneOutcome fill_places.Post (λ κs lent. lent.1.0.now)
fill_places_unique κs a y z s t p q = (refl, p ∙ sym q)

pub fill_rows_unique : OneOutcome fill_rows.Post (λ κs lent. lent.1.0.now)
fill_rows_unique κs a y z s t p q = (refl, p ∙ sym q)
