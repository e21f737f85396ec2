-- The step at a pattern's value, as a place of the pattern's significand: the step's exponent is the place's and the pattern's
-- together. Assumes nothing.
use mathlib.Core.Path.{◌≡◌}
use mathlib.Core.Logic.{inl, inr}
use Prim.Native.Nat.{ℕ, ◌+◌, ◌-◌, ◌*◌, ◌^◌, ◌≤◌, ◌<◌}
use native.Mathlib.Omega.{arith}
use Rattle.patterns.specs.Patterns.{ex, digits_of, pat}
use Rattle.patterns.proofs.Values.{DigitCases, digit_cases}
use Rattle.patterns.proofs.Powers.{pat_power}
use Rattle.grid.specs.declared.Format.{Format}
use Rattle.grid.specs.Formats.{InRange, emin, zeta_exp, step_exp, smallest_normal}
use Rattle.grid.proofs.Steps.{emin_normal, zeta_near, step_normal, step_small}

module _ (f : Format) (r : InRange f) where
  -- ---- the normal range

  pub smallest_normal_at : pat (smallest_normal f) ≡ (emin f - 51) * 2 ^ 52
  unfolding smallest_normal
  smallest_normal_at = pat_power (emin f) (emin_normal f r)

  -- a pattern is in it where its value has more than emin digits
  pub digits-below_normal : (m : ℕ) → m < pat (smallest_normal f) → digits_of m ≤ emin f
  digits-below_normal m small = go (digit_cases m)
    where
      go : DigitCases m → digits_of m ≤ emin f
      go (inl c) = omega (arith, emin_normal f r)
      go (inr c) = omega (arith, emin_normal f r, smallest_normal_at)

  pub digits_from_normal : (m : ℕ) → pat (smallest_normal f) ≤ m → emin f < digits_of m
  digits_from_normal m reached = go (digit_cases m)
    where
      go : DigitCases m → emin f < digits_of m
      go (inl c) = absurd (omega (arith, emin_normal f r, smallest_normal_at))
      go (inr c) = omega (arith, emin_normal f r, smallest_normal_at)

  -- ---- the place

  -- in the normal range p of the significand's 53 digits are kept
  pub normal_place : (m : ℕ) → emin f < digits_of m → 53 - f.p + ex m ≡ step_exp f (digits_of m)
  normal_place m large = go (digit_cases m)
    where
      go : DigitCases m → 53 - f.p + ex m ≡ step_exp f (digits_of m)
      go (inl c) = absurd (omega (arith, emin_normal f r))
      go (inr c) = omega (arith, r.p_most, emin_normal f r, step_normal f (digits_of m) large)

  -- and below it zeta is the last place, which is not below the significand's own
  pub small_place : (m : ℕ) → digits_of m ≤ emin f → zeta_exp f - ex m + ex m ≡ step_exp f (digits_of m)
  small_place m small = go (digit_cases m)
    where
      go : DigitCases m → zeta_exp f - ex m + ex m ≡ step_exp f (digits_of m)
      go (inl c) = omega (arith, step_small f (digits_of m) small)
      go (inr c) = omega (arith, r.p_most, zeta_near f r, step_small f (digits_of m) small)
