-- Every promise of this crate leaves one answer: two results that it allows for the same arguments are equal. Each is an
-- equation with the definition that the contract names, so two of them meet there. Assumes nothing.
use mathlib.Core.Path.{sym, ◌∙◌}
use Rattle.laws.specs.Promises.{OneAnswer}
use Rattle.places.proofs.high_part.Reads as high_part
use Rattle.places.proofs.low_part.Reads as low_part
use Rattle.places.proofs.moved_up.Reads as moved_up

pub high_part_unique : OneAnswer high_part.Post
high_part_unique κs a y z s t p q = p ∙ sym q

pub low_part_unique : OneAnswer low_part.Post
low_part_unique κs a y z s t p q = p ∙ sym q

pub moved_up_unique : OneAnswer moved_up.Post
moved_up_unique κs a y z s t p q = p ∙ sym q
