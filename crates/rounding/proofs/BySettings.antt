-- A pattern rounded by settings, as the code comes to it by what the pattern is. Assumes nothing.
use mathlib.Core.Path.{◌≡◌}
use Prim.Native.Nat.{ℕ}
use Rattle.patterns.specs.declared.Kind.{Kind}
use Rattle.patterns.specs.declared.Kind.TheVariants.{Zero, Finite, NaN}
use Rattle.patterns.specs.Patterns.{sign, mag, with_sign, kind_of}
use Rattle.magnitudes.specs.declared.Settings.{Settings}
use Rattle.magnitudes.specs.BySettings.{goes_to_by}
use Rattle.rounding.specs.Rounded.{answer_to}
use Rattle.rounding.specs.BySettings.{rounded_by}

module _ (s : Settings) (word x : ℕ) (k : Kind) (e : k ≡ kind_of x) where
  pub zero_back : k ≡ Zero → x ≡ rounded_by s word x
  unfolding rounded_by answer_to
  zero_back is = simp (← e, is)

  pub nan_back : k ≡ NaN → x ≡ rounded_by s word x
  unfolding rounded_by answer_to
  nan_back is = simp (← e, is)

  pub finite_rounded : k ≡ Finite → (y : ℕ) → y ≡ goes_to_by s (sign x) word (mag x) → (z : ℕ) → z ≡ with_sign x y → z ≡ rounded_by s word x
  unfolding rounded_by answer_to
  finite_rounded is y goes z put = simp (← e, is, put, goes)
