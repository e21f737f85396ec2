-- `sweeps::derived::places_are_sound` meets its contract. Assumes nothing.
use Rattle.sweeps.proofs.Soundness.{cuts_too_many, starts_too_low, ends_too_high, places_asked}
use Rattle.sweeps.proofs.derived.places_are_sound.Goals as goal

pub returns-then-cut-gt51 : goal.returns-then-cut-gt51
returns-then-cut-gt51 c = search cuts_too_many

pub returns-then-emin-lt52 : goal.returns-then-emin-lt52
returns-then-emin-lt52 c = search starts_too_low

pub returns-then-emin-bottom : goal.returns-then-emin-bottom
returns-then-emin-bottom c = search ends_too_high

pub returns : goal.returns
returns c = search places_asked
