-- The landmarks of a format: their patterns, and zeta's exponent, as the code makes them in range, and 0 out of range. Assumes
-- nothing.
use mathlib.Core.Bool.{Bool, true, false, cond}
use mathlib.Core.Path.{◌≡◌, sym, ap, ◌∙◌}
use mathlib.Core.Logic.{inr}
use Prim.Native.Nat.{ℕ, ◌+◌, ◌-◌, ◌*◌, ◌%◌, ◌^◌, ◌≤◌, ◌<◌}
use native.Mathlib.Nat.{mul_assoc, add-sub_of_le}
use native.Mathlib.Omega.{arith}
use lib.Pow.{pow-add, pow_mono}
use Rattle.laws.proofs.Multiples.{ones_and_one}
use Rattle.laws.proofs.Words.{one_shifted}
use Rattle.patterns.specs.Patterns.{pat, power_pattern}
use Rattle.patterns.proofs.Values.{pat_at}
use Rattle.patterns.proofs.Powers.{pat_power, power_pattern_is}
use Rattle.grid.specs.declared.Format.{Format}
use Rattle.grid.specs.Formats.{in_range, InRange, emin, etop, smallest_normal, zeta_exp, xmax, T, pattern_in, exponent_in}
use Rattle.grid.proofs.Ranges.{in_range_bounds}
use Rattle.grid.proofs.Steps.{zeta-sub, zeta_no_sub}

module _ (f : Format) (b : Bool) (tested : b ≡ in_range f) where
  pub pattern_out_of_range : (n : ℕ) → b ≡ false → 0 ≡ pattern_in f n
  unfolding pattern_in
  pattern_out_of_range n out = sym (ap (λ (t : Bool). cond t (pat n) 0) (sym tested ∙ out))

  pub exponent_out_of_range : (e : ℕ) → b ≡ false → 0 ≡ exponent_in f e
  unfolding exponent_in
  exponent_out_of_range e out = sym (ap (λ (t : Bool). cond t e 0) (sym tested ∙ out))

  module _ (passed : b ≡ true) where
    pub pattern_in_range : (n : ℕ) → pattern_in f n ≡ pat n
    unfolding pattern_in
    pattern_in_range n = ap (λ (t : Bool). cond t (pat n) 0) (sym tested ∙ passed)

    pub exponent-in_range : (e : ℕ) → exponent_in f e ≡ e
    unfolding exponent_in
    exponent-in_range e = ap (λ (t : Bool). cond t e 0) (sym tested ∙ passed)

    -- the settings have their bounds, so that the code's sums and differences of them fit
    pub range_passed : InRange f
    range_passed = in_range_bounds f (sym tested ∙ passed)

    pub smallest_normal_pattern_is : (y : ℕ) → y ≡ power_pattern (1075 - f.emax) → y ≡ pattern_in f (smallest_normal f)
    unfolding smallest_normal emin
    smallest_normal_pattern_is y e = e ∙ power_pattern_is (1075 - f.emax) (omega (arith, range_passed.emax_most)) ∙ sym (pattern_in_range (smallest_normal f))

    pub top_pattern_is : (y : ℕ) → y ≡ power_pattern (1075 + f.emax) → y ≡ pattern_in f (T f)
    unfolding T etop
    top_pattern_is y e = e ∙ power_pattern_is (1075 + f.emax) (omega (arith, range_passed.emax_most)) ∙ sym (pattern_in_range (T f))

    pub zeta-exponent-sub : f.sub ≡ true → 1076 - f.emax - f.p ≡ exponent_in f (zeta_exp f)
    unfolding emin
    zeta-exponent-sub kept = omega (arith, range_passed, zeta-sub f range_passed kept, exponent-in_range (zeta_exp f))

    pub zeta-exponent_no_sub : f.sub ≡ false → 1075 - f.emax ≡ exponent_in f (zeta_exp f)
    unfolding emin
    zeta-exponent_no_sub none = omega (arith, zeta_no_sub f range_passed none, exponent-in_range (zeta_exp f))

    -- xmax is T less one in the last of p places, and its pattern is the pattern of T less the same
    pub xmax_then_top : pat (xmax f) + 2 ^ (53 - f.p) ≡ pat (T f)
    unfolding xmax T etop
    xmax_then_top =
        let d = 2 ^ (53 - f.p) in
        let s = (2 ^ f.p - 1) * d in
        let t = 1075 + f.emax in
        let carried : s + d ≡ 2 ^ 53 = ones_and_one f.p (53 - f.p) ∙ ap (λ (k : ℕ). 2 ^ k) (add-sub_of_le range_passed.p_most) in
        let few : d ≤ 2 ^ 51 = pow_mono {i = 53 - f.p} {j = 51} (omega (arith, range_passed.p_least)) in
        let shifted : s * 2 ^ (t - 53) ≡ (2 ^ f.p - 1) * 2 ^ (t - f.p) =
        mul_assoc (2 ^ f.p - 1) d (2 ^ (t - 53))
        ∙ ap (λ (x : ℕ). (2 ^ f.p - 1) * x) (sym (pow-add 2 (53 - f.p) (t - 53)) ∙ ap (λ (k : ℕ). 2 ^ k) (places f.p t range_passed.p_most (omega arith))) in
        omega (arith, sym (ap pat shifted) ∙ pat_at (t - 53) s (omega arith) (inr (omega arith)), pat_power t (omega arith))
      where
        places : (p t : ℕ) → p ≤ 53 → 53 ≤ t → 53 - p + (t - 53) ≡ t - p
        places p t h g = omega arith

    module _ (y : ℕ) (e : y ≡ pattern_in f (T f)) where
      -- T's pattern is large, so that the code may take a place of its fraction away
      pub top_pattern_large : 2 ^ 61 ≤ y
      unfolding T etop
      top_pattern_large = omega (arith, pattern_in_range (T f), pat_power (1075 + f.emax) (omega arith))

      pub xmax_pattern_is : (w : ℕ) → 53 < w → y - 1 * 2 ^ (53 - f.p) % 2 ^ w ≡ pattern_in f (xmax f)
      xmax_pattern_is w wide =
          omega (arith, one_shifted w (53 - f.p) (omega arith), pattern_in_range (T f), pattern_in_range (xmax f), xmax_then_top)
