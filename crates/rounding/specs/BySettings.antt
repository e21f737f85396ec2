-- The answer's pattern as it is computed, from settings that are worked out once for a format and a mode, and what hands them
-- out. That it is the rounded pattern is the law `rounded_by-settings`. For settings of any other numbers it is only what the
-- code does.
-- Assumes nothing.
use Rattle.std.specs.Prelude.{cond, ℕ, eqb}
use Rattle.patterns.specs.Patterns.{sign, mag, kind_of}
use Rattle.grid.specs.declared.Format.{Format}
use Rattle.magnitudes.specs.declared.Settings.{Settings}
use Rattle.magnitudes.specs.Modes.{mode_of}
use Rattle.magnitudes.specs.BySettings.{settings, goes_to_by}
use Rattle.rounding.specs.Rounded.{answer_to}
use Rattle.rounding.specs.Calls.{refusal}

-- the answer's pattern, for every 64-bit input
unfoldable pub rounded_by : Settings → ℕ → ℕ → ℕ
rounded_by s word x = answer_to (kind_of x) x (goes_to_by s (sign x) word (mag x))

-- what a format, a mode's number and r come to: settings to round by, or the number of the refusal
pub data Prepared : Type 0 where
  Ready : (s : Settings) → Prepared
  Refused : (number : ℕ) → Prepared

-- the settings to round by, unless the number is a refusal's
unfoldable pub unless_refused : ℕ → Settings → Prepared
unless_refused number s = cond (eqb number 0) (Ready s) (Refused number)

-- what a single call comes to
unfoldable pub prepared : Format → ℕ → ℕ → Prepared
prepared f mode r = unless_refused (refusal f mode r) (settings f (mode_of mode r))

-- document 01's number for what was prepared: 0 where nothing is refused
unfoldable pub number_of : Prepared → ℕ
number_of (Ready s) = 0
number_of (Refused number) = number
