-- Every promise of this crate leaves one outcome: two answers that it allows for the same arguments are equal, and so are two
-- buffers. Each is an equation with the definition that the contract names, so two of them meet there. The texts that are only
-- read cannot change. Assumes nothing.
use mathlib.Core.Path.{refl, sym, ◌∙◌}
use Rattle.laws.specs.Promises.{OneAnswer, OneOutcome}
use Rattle.lines.proofs.reading.read_line.Reads as read_line
use Rattle.lines.proofs.writing.lay_over.Reads as lay_over
use Rattle.lines.proofs.writing.write_line.Reads as write_line

pub read_line_unique : OneAnswer read_line.Post
read_line_unique κs a y z s t p q = p ∙ sym q

-- what stands in `out`, the first parameter, as each returns
pub lay_over_unique : OneOutcome lay_over.Post (λ κs lent. lent.0.now)
lay_over_unique κs a y z s t p q = (refl, p ∙ sym q)

pub write_line_unique : OneOutcome write_line.Post (λ κs lent. lent.0.now)
write_line_unique κs a y z s t p q = (p.0 ∙ sym q.0, p.1 ∙ sym q.1)
