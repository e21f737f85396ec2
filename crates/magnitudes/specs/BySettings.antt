-- Where a magnitude goes as it is computed, from settings that are worked out once for a format and a mode. That it is where it
-- is meant to go is the law `goes_to_by-settings`. For settings of any other numbers it is only what the code does.
-- Assumes nothing.
use Rattle.std.specs.Prelude.{Bool, cond, ℕ, ◌+◌, ◌-◌, ◌*◌, ◌^◌, min, max, leb, ltb}
use Rattle.patterns.specs.Patterns.{infinity, ex, sig, digits_of, pat}
use Rattle.places.specs.Places.{high}
use Rattle.grid.specs.declared.Format.{Format}
use Rattle.grid.specs.Formats.{emin, zeta_exp, zeta, xmax, T}
use Rattle.magnitudes.specs.declared.Mode.{Mode}
use Rattle.magnitudes.specs.declared.Settings.{Settings}
use Rattle.magnitudes.specs.Modes.{overflows}
use Rattle.magnitudes.specs.Increments.{increment}

-- what is worked out once
unfoldable pub settings : Format → Mode → Settings
settings f mode =
    record {
      mode = mode;
      cut = 53 - f.p;
      emin = emin f;
      bottom = zeta_exp f;
      zeta = pat (zeta f);
      xmax = pat (xmax f);
      top = pat (T f);
    }

-- the place of the significand's last kept digit: in the normal range p digits are kept, and below it the step is zeta
unfoldable pub place : ℕ → ℕ → ℕ → ℕ → ℕ
place cut emin bottom m = cond (ltb emin (digits_of m)) cut (bottom - ex m)

-- Where a digit is kept, the increment is added to the pattern itself and what stands below the place is cleared; a carry
-- out of the fraction raises the exponent by one, which is right.
unfoldable pub kept : Mode → Bool → ℕ → ℕ → ℕ → ℕ
kept mode negative word m d = high (m + increment mode negative (high (sig m) d) (2 ^ d) word) d * 2 ^ d

-- a number moved k places down, of which at least a trace stays
unfoldable pub trace : ℕ → ℕ → ℕ
trace n k = max 1 (high n k)

-- Where none is kept lo is 0 and hi is zeta, which is taken where the rest and the increment reach the place. A place past a
-- word's last is brought down to it, and the rest with it.
unfoldable pub reached : Mode → Bool → ℕ → ℕ → ℕ → Bool
reached mode negative word m d =
    let c = min d 63 in
    leb (2 ^ c) (trace (sig m) (d - c) + increment mode negative 0 (2 ^ c) word)

-- below T, by the place
unfoldable pub moved : Settings → Bool → ℕ → ℕ → ℕ
moved s negative word m =
    let d = place s.cut s.emin s.bottom m in
    cond (ltb d 53) (kept s.mode negative word m d) (cond (reached s.mode negative word m d) s.zeta 0)

-- the magnitude pattern that m goes to: what comes out as T is infinity, and an m that reaches T goes by its mode's overflow
unfoldable pub goes_to_by : Settings → Bool → ℕ → ℕ → ℕ
goes_to_by s negative word m =
    let y = moved s negative word m in
    cond (ltb m s.top) (cond (ltb y s.top) y infinity) (cond (overflows s.mode negative) infinity s.xmax)
