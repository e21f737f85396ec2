-- The settings for a format and a mode, as the code works them out. Assumes nothing.
use mathlib.Core.Bool.{true}
use mathlib.Core.Path.{◌≡◌, refl, sym}
use Prim.Native.Nat.{ℕ, ◌+◌, ◌-◌, ◌≤◌}
use native.Mathlib.Omega.{arith}
use Rattle.patterns.specs.Patterns.{power_pattern}
use Rattle.patterns.proofs.Powers.{power_pattern_is}
use Rattle.grid.specs.declared.Format.{Format}
use Rattle.grid.specs.Formats.{in_range, InRange, emin, zeta_exp, zeta, xmax, T, pattern_in, exponent_in}
use Rattle.grid.proofs.Ranges.{in_range_bounds}
use Rattle.grid.proofs.Landmarks.{pattern_in_range, exponent-in_range}
use Rattle.grid.proofs.Steps.{zeta_not_above}
use Rattle.magnitudes.specs.declared.Mode.{Mode}
use Rattle.magnitudes.specs.BySettings.{settings}

module _ (f : Format) (passed : in_range f ≡ true) where
  bounds : InRange f
  bounds = in_range_bounds f passed

  pub settings_are : (mode : Mode) (bottom : ℕ) → bottom ≡ exponent_in f (zeta_exp f) → (z x t : ℕ) → z ≡ power_pattern bottom → x ≡ pattern_in f (xmax f) → t ≡ pattern_in f (T f)
      → record { mode = mode; cut = 53 - f.p; emin = 1075 - f.emax; bottom = bottom; zeta = z; xmax = x; top = t } ≡ settings f mode
  unfolding settings emin zeta
  settings_are mode bottom b z x t zs xs ts =
      let few : zeta_exp f ≤ 1074 + 1024 = omega (arith, bounds, zeta_not_above f bounds) in
      simp (zs, b, exponent-in_range f true (sym passed) refl (zeta_exp f), power_pattern_is (zeta_exp f) few, xs, ts, pattern_in_range f true (sym passed) refl (xmax f), pattern_in_range f true (sym passed) refl (T f))
