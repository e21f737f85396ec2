-- `sweeps::stretches::places_from` meets its contract. Assumes nothing.
use Rattle.sweeps.proofs.StretchEnds.{first_places, later_places}
use Rattle.sweeps.proofs.stretches.places_from.Goals as goal

pub returns-then-from-eq0 : goal.returns-then-from-eq0
returns-then-from-eq0 c = search first_places

pub returns : goal.returns
returns c = search later_places
