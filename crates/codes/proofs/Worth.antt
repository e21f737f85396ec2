-- What the exponent and fraction fields of a code are worth, by the number n that they are together. Assumes nothing.
use mathlib.Core.Path.{◌≡◌, sym, ap, ap₂, ◌∙◌, subst}
use Prim.Native.Nat.{ℕ, zero, suc, ◌+◌, ◌-◌, ◌*◌, ◌/◌, ◌%◌, ◌^◌, ◌<◌}
use native.Mathlib.Nat.{add-mul, mul-lt-mul_of_pos_right, div-eq_of_lt, mod-eq_of_lt}
use native.Mathlib.Omega.{arith}
use lib.Pow.{pow-add, pow_pos}
use Rattle.laws.proofs.Scales.{zeros_add, scale_div, scale_mod}
use Rattle.patterns.specs.Patterns.{worth, val}
use Rattle.patterns.proofs.Values.{val_increasing}
use Rattle.grid.specs.declared.Format.{Format}
use Rattle.grid.specs.Formats.{InRange, emin}
use Rattle.grid.proofs.Steps.{emin_normal}
use Rattle.layouts.specs.Fields.{bias}
use Rattle.codes.specs.Unpacking.{worth_in}

-- what the fields n are worth
abbrev pub worth_of : Format → ℕ → ℕ
worth_of f n = worth_in f (n / 2 ^ (f.p - 1)) (n % 2 ^ (f.p - 1))

module _ (f : Format) (r : InRange f) where
  -- the fraction bits and the zeros that binary64 has behind them
  fraction_and_zeros : f.p - 1 + (53 - f.p) ≡ 52
  fraction_and_zeros = omega arith

  -- so that moved up by them the first fields of the normal range are the first of binary64's
  pub first_moved : 2 ^ (f.p - 1) * 2 ^ (53 - f.p) ≡ 2 ^ 52
  first_moved = sym (pow-add 2 (f.p - 1) (53 - f.p)) ∙ ap (λ (k : ℕ). 2 ^ k) fraction_and_zeros

  -- An exponent field and a fraction are worth what binary64's are, with the zeros behind the fraction, times the difference
  -- of the biases.
  same_fields : (e n : ℕ) → worth e (n * 2 ^ (53 - f.p)) * 2 ^ (emin f - 52) ≡ worth_in f e n
  unfolding worth worth_in bias emin
  same_fields zero n =
      let place : 53 - f.p + (emin f - 52) ≡ emin f + 1 - f.p = omega (arith, emin_normal f r) in
      zeros_add n (53 - f.p) (emin f - 52) ∙ ap (λ (k : ℕ). n * 2 ^ k) place
  same_fields (suc e) n =
      let d = 53 - f.p in
      let place : d + e + (emin f - 52) ≡ suc e + 1074 - f.emax + 1 - f.p = omega (arith, emin_normal f r) in
      ap (λ (x : ℕ). (x + n * 2 ^ d) * 2 ^ e * 2 ^ (emin f - 52)) (sym first_moved)
      ∙ ap (λ (x : ℕ). x * 2 ^ e * 2 ^ (emin f - 52)) (sym (add-mul (2 ^ (f.p - 1)) n (2 ^ d)))
      ∙ ap (λ (x : ℕ). x * 2 ^ (emin f - 52)) (zeros_add (2 ^ (f.p - 1) + n) d e)
      ∙ zeros_add (2 ^ (f.p - 1) + n) (d + e) (emin f - 52)
      ∙ ap (λ (k : ℕ). (2 ^ (f.p - 1) + n) * 2 ^ k) place

  -- the fields with these zeros behind them are a pattern, and worth what it is worth, times the same
  pub worth_by_pattern : (n : ℕ) → worth_of f n ≡ val (n * 2 ^ (53 - f.p)) * 2 ^ (emin f - 52)
  unfolding val
  worth_by_pattern n =
      let d = 53 - f.p in
      sym (same_fields (n / 2 ^ (f.p - 1)) (n % 2 ^ (f.p - 1)))
      ∙ ap₂ (λ (e m : ℕ). worth e m * 2 ^ (emin f - 52))
      (sym (scale_div n (f.p - 1) d) ∙ ap (λ (k : ℕ). n * 2 ^ d / 2 ^ k) fraction_and_zeros)
      (sym (scale_mod n (f.p - 1) d) ∙ ap (λ (k : ℕ). n * 2 ^ d % 2 ^ k) fraction_and_zeros)

  -- so larger fields are worth more
  pub worth_increasing : (m n : ℕ) → m < n → worth_of f m < worth_of f n
  worth_increasing m n h =
      subst (λ (x : ℕ). x < worth_of f n) (sym (worth_by_pattern m))
      (subst (λ (x : ℕ). val (m * 2 ^ (53 - f.p)) * 2 ^ (emin f - 52) < x) (sym (worth_by_pattern n))
      (mul-lt-mul_of_pos_right
      (val_increasing (m * 2 ^ (53 - f.p)) (n * 2 ^ (53 - f.p)) (mul-lt-mul_of_pos_right h (pow_pos (53 - f.p))))
      (pow_pos (emin f - 52))))

  -- fields below the normal range are as many last places of the smallest normal number,
  pub worth_small : (n : ℕ) → n < 2 ^ (f.p - 1) → worth_of f n ≡ n * 2 ^ (emin f + 1 - f.p)
  unfolding worth_in
  worth_small n h = ap₂ (worth_in f) (div-eq_of_lt h) (mod-eq_of_lt h)

  -- and from there on the first exponent field is emin's
  pub worth_large : (e n : ℕ) → worth_in f (suc e) n ≡ (2 ^ (f.p - 1) + n) * 2 ^ (e + emin f + 1 - f.p)
  unfolding worth_in bias emin
  worth_large e n = ap (λ (k : ℕ). (2 ^ (f.p - 1) + n) * 2 ^ k) (omega arith)
