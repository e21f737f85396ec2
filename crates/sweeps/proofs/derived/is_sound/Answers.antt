-- `sweeps::derived::is_sound` meets its contract. Assumes nothing.
use Rattle.sweeps.proofs.Soundness.{cuts_few, starts_normal, sound_asked, sound_failed}
use Rattle.sweeps.proofs.derived.is_sound.Goals as goal

pub top_is_sound-requires-clause-cut_bound : goal.top_is_sound-requires-clause-cut_bound
top_is_sound-requires-clause-cut_bound c = search cuts_few

pub top_is_sound-requires-clause-le_emin : goal.top_is_sound-requires-clause-le_emin
top_is_sound-requires-clause-le_emin c = search starts_normal

pub returns-then-places_are_sound : goal.returns-then-places_are_sound
returns-then-places_are_sound c = search sound_asked

pub returns-else-places_are_sound : goal.returns-else-places_are_sound
returns-else-places_are_sound c = search sound_failed
