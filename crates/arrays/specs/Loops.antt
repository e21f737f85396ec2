-- What the code decides before anything is written, and what its loops write, by settings. That this is what Rounding.antt says
-- is what the proof of `round_array` shows. Assumes nothing.
use Rattle.std.specs.Prelude.{List, ℕ, length, get_or}
use Rattle.laws.specs.Fills.{FilledTo}
use Rattle.laws.specs.Lists.{tab}
use Rattle.grid.specs.declared.Format.{Format}
use Rattle.magnitudes.specs.declared.Settings.{Settings}
use Rattle.magnitudes.specs.Modes.{mode_of}
use Rattle.magnitudes.specs.BySettings.{settings}
use Rattle.rounding.specs.BySettings.{Prepared, rounded_by, unless_refused}
use Rattle.arrays.specs.Rounding.{array_refusal}

-- the settings to round by, or the number of the first refusal that applies, by the three lengths
unfoldable pub decided : Format → ℕ → ℕ → ℕ → ℕ → ℕ → Prepared
decided f mode r words inputs outputs = unless_refused (array_refusal f mode r words inputs outputs) (settings f (mode_of mode r))

-- the answer at place i by settings
unfoldable pub rounded_by_at : Settings → List ℕ → List ℕ → ℕ → ℕ
rounded_by_at s words xs i = rounded_by s (get_or words i 0) (get_or xs i 0)

-- the places below n hold their answers
abbrev pub RoundedTo : List ℕ → List ℕ → Settings → ℕ → List ℕ → Type 0
RoundedTo words xs s n l = FilledTo (rounded_by_at s words xs) n l

-- every place's answer
unfoldable pub rounded_all_by : Settings → List ℕ → List ℕ → List ℕ
rounded_all_by s words xs = tab (length xs) (rounded_by_at s words xs)
