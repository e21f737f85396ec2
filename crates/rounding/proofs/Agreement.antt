-- What is computed is what is meant: rounding by the settings of a format in range and a mode gives the rounded pattern, as a
-- magnitude goes where it is meant to go. Assumes nothing.
use mathlib.Core.Path.{◌≡◌, refl, ap}
use Prim.Native.Nat.{ℕ}
use Rattle.patterns.specs.declared.Kind.{Kind}
use Rattle.patterns.specs.declared.Kind.TheVariants.{Zero, Finite, Infinity, NaN}
use Rattle.patterns.specs.Patterns.{sign, mag, with_sign, kind_of, val}
use Rattle.patterns.proofs.PatternKinds.{finite_positive}
use Rattle.grid.specs.declared.Format.{Format}
use Rattle.grid.specs.Formats.{InRange}
use Rattle.magnitudes.specs.declared.Mode.{Mode}
use Rattle.magnitudes.specs.Modes.{ModeFits}
use Rattle.magnitudes.specs.Destinations.{goes_to}
use Rattle.magnitudes.specs.BySettings.{settings, goes_to_by}
use Rattle.magnitudes.proofs.Agreement.{goes_to_by-settings}
use Rattle.rounding.specs.Rounded.{answer_to, rounded}
use Rattle.rounding.specs.BySettings.{rounded_by}

-- Rounding by the settings of a format and a mode is what document 01 says, for every pattern and every word.
pub rounded_by-settings : (f : Format) → InRange f → (mode : Mode) → ModeFits mode → (word x : ℕ) → rounded_by (settings f mode) word x ≡ rounded f mode word x
unfolding rounded_by rounded answer_to
rounded_by-settings f r mode fits word x = go (kind_of x) refl
  where
    go : (k : Kind) → kind_of x ≡ k → answer_to k x (goes_to_by (settings f mode) (sign x) word (mag x)) ≡ answer_to k x (goes_to f mode (sign x) word (val (mag x)))
    go Zero e = refl
    go Finite e = ap (with_sign x) (goes_to_by-settings f r mode fits (sign x) word (mag x) (finite_positive x e))
    go Infinity e = refl
    go NaN e = refl
