-- Rounding by a sum on the whole pattern: where a digit is kept and the sum stays below T, the increment may be added to the
-- pattern with its sign, and the digits below the place cleared there. All quick ways cite this one law. Assumes nothing.
use Rattle.std.proofs.Common.{◌≡◌, ℕ, ◌+◌, ◌*◌, ◌/◌, ◌%◌, ◌^◌, ◌<◌, ◌≤◌, sym, refl, ap, ◌∙◌, subst, lt_of_le_of_lt, mul-le-mul_right, mod-eq_of_lt, div-mul-le_self, arith}
use lib.Pow.{shr_mono}
use Rattle.laws.proofs.Multiples.{clears_past, digit_past}
use Rattle.patterns.specs.declared.Kind.TheVariants.{Finite}
use Rattle.patterns.specs.Patterns.{sign, mag, with_sign, infinity, kind_of, ex, sig}
use Rattle.patterns.proofs.PatternKinds.{kind_finite}
use Rattle.patterns.proofs.Signs.{with_sign-sum}
use Rattle.places.specs.Places.{high}
use Rattle.magnitudes.specs.declared.Settings.{Settings}
use Rattle.magnitudes.specs.Increments.{increment}
use Rattle.magnitudes.specs.BySettings.{place, kept, moved}
use Rattle.magnitudes.proofs.BySettings.{moved-kept, goes_below_top, goes_to_top}
use Rattle.rounding.specs.BySettings.{rounded_by}
use Rattle.rounding.proofs.BySettings.{finite_rounded}

-- ---- the pattern and its magnitude

-- below the exponent field a magnitude's digits are its significand's, and a pattern's are its magnitude's
pub magnitude_digit : (m d : ℕ) → d < 52 → m / 2 ^ d % 2 ≡ sig m / 2 ^ d % 2
magnitude_digit m d few =
    let apart : m ≡ ex m * 2 ^ 52 + sig m = omega arith in
    ap (λ (n : ℕ). n / 2 ^ d % 2) apart ∙ digit_past d 52 (ex m) (sig m) few

pub pattern_digit : (x d : ℕ) → d < 52 → x / 2 ^ d % 2 ≡ sig (mag x) / 2 ^ d % 2
unfolding mag
pattern_digit x d few =
    let apart : x ≡ x / 2 ^ 63 * 2 ^ 63 + x % 2 ^ 63 = omega arith in
    ap (λ (n : ℕ). n / 2 ^ d % 2) apart ∙ digit_past d 63 (x / 2 ^ 63) (x % 2 ^ 63) (omega arith) ∙ magnitude_digit (x % 2 ^ 63) d few

-- a sum on the pattern that leaves the sign bit alone is one on the magnitude, with the sign put back
pub sum-with_sign : (x i d : ℕ) → x < 2 ^ 64 → d < 63 → mag x + i < 2 ^ 63 → (x + i) / 2 ^ d * 2 ^ d ≡ with_sign x ((mag x + i) / 2 ^ d * 2 ^ d)
unfolding mag
sum-with_sign x i d fits few below =
    let m = x % 2 ^ 63 in
    let D = 2 ^ d in
    let apart : x + i ≡ x / 2 ^ 63 * 2 ^ 63 + (m + i) = omega arith in
    let stays : (m + i) / D * D % 2 ^ 63 ≡ (m + i) / D * D = mod-eq_of_lt (lt_of_le_of_lt (div-mul-le_self (m + i) D) below) in
    ap (λ (n : ℕ). n / D * D) apart
    ∙ clears_past d 63 (x / 2 ^ 63) (m + i) (omega arith)
    ∙ ap (λ (n : ℕ). x / 2 ^ 63 * 2 ^ 63 + n) (sym stays)
    ∙ with_sign-sum x ((m + i) / D * D) fits

-- ---- the sum is the rounded pattern

-- a finite number that is not zero, its place, where a digit is kept, and its increment
module _ (s : Settings) (word x d : ℕ) (fits : x < 2 ^ 64) (some : 0 < mag x) (finite : mag x < infinity)
    (at : d ≡ place s.cut s.emin s.bottom (mag x)) (few : d < 53)
    (i : ℕ) (e : i ≡ increment s.mode (sign x) (sig (mag x) / 2 ^ d) (2 ^ d) word) where
  is_finite : Finite ≡ kind_of x
  is_finite = kind_finite x (mag x) refl (λ (none : mag x ≡ 0). omega arith) finite

  sum_moved : (mag x + i) / 2 ^ d * 2 ^ d ≡ moved s (sign x) word (mag x)
  unfolding kept high
  sum_moved =
      moved-kept s (sign x) word (mag x) d at few ((mag x + i) / 2 ^ d * 2 ^ d)
      (ap (λ (n : ℕ). (mag x + n) / 2 ^ d * 2 ^ d) e)

  -- The one law over the increment: the pattern with the increment added and the digits below the place cleared is the rounded
  -- one, if the sum stays below T.
  pub sum_is_rounded : mag x + i < s.top → s.top ≤ infinity → (x + i) / 2 ^ d * 2 ^ d ≡ rounded_by s word x
  sum_is_rounded below most =
      let y = (mag x + i) / 2 ^ d * 2 ^ d in
      let under : y < s.top = lt_of_le_of_lt (div-mul-le_self (mag x + i) (2 ^ d)) below in
      finite_rounded s word x Finite is_finite refl y
      (goes_below_top s word x (sign x) refl (mag x) refl (omega arith) y sum_moved under)
      ((x + i) / 2 ^ d * 2 ^ d) (sum-with_sign x i d fits (omega arith) (omega arith))

  -- and a sum that reaches T, from below it, is rounded to infinity
  pub carry_is_rounded : mag x < s.top → s.top ≤ mag x + i → s.top / 2 ^ d * 2 ^ d ≡ s.top → with_sign x infinity ≡ rounded_by s word x
  carry_is_rounded below reached whole =
      let y = (mag x + i) / 2 ^ d * 2 ^ d in
      let past : s.top ≤ y = subst (λ (n : ℕ). n ≤ y) whole (mul-le-mul_right (2 ^ d) (shr_mono d reached)) in
      finite_rounded s word x Finite is_finite refl infinity
      (goes_to_top s word x (sign x) refl (mag x) refl below y sum_moved past)
      (with_sign x infinity) refl
