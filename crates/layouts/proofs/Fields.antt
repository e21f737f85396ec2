-- A format that has a code: how its width and its exponent field follow from emax. Assumes nothing.
use mathlib.Core.Bool.{true}
use mathlib.Core.Path.{◌≡◌, sym, ap, ◌∙◌}
use Prim.Native.Nat.{ℕ, suc, ◌+◌, ◌-◌, ◌*◌, ◌^◌, ◌≤◌}
use native.Mathlib.Nat.{pow-succ'}
use native.Mathlib.Omega.{arith}
use lib.Ieee.{size}
use lib.Ieee.Digits.{size-le}
use borrow.Author.Tests.{eqb-true, eq-eqb}
use Rattle.laws.proofs.Digits.{size-pow}
use Rattle.grid.specs.declared.Format.{Format}
use Rattle.grid.specs.Formats.{InRange}
use Rattle.layouts.specs.Fields.{be, has_code, HasCode, width, ones}

-- the test and the property: emax + 1 is some power of two
pub tested_has_code : (f : Format) → InRange f → has_code f ≡ true → HasCode f
unfolding has_code
tested_has_code f r e = record { range = r; digits = be f - 1; power = eqb-true (f.emax + 1) (2 ^ (be f - 1)) e }

module _ (f : Format) (h : HasCode f) where
  -- the power is 2^(be - 1)
  pub exponent_bits : be f ≡ suc h.digits
  unfolding be
  exponent_bits = ap size h.power ∙ size-pow h.digits

  pub has_code_tested : has_code f ≡ true
  unfolding has_code
  has_code_tested = eq-eqb (f.emax + 1) (2 ^ (be f - 1)) (h.power ∙ ap (λ (k : ℕ). 2 ^ k) (sym (less (be f) h.digits exponent_bits)))
    where
      less : (b d : ℕ) → b ≡ suc d → b - 1 ≡ d
      less b d e = omega arith

  -- so the exponent field counts from 0 to 2 · emax + 1,
  exponent_fields : 2 ^ be f ≡ 2 * (f.emax + 1)
  exponent_fields = ap (λ (k : ℕ). 2 ^ k) exponent_bits ∙ pow-succ' 2 h.digits ∙ ap (λ (n : ℕ). 2 * n) (sym h.power)

  -- and that is its last number, with ones only
  pub ones_are : ones f ≡ 2 * f.emax + 1
  unfolding ones
  ones_are = omega (arith, exponent_fields)

-- a format in range has at most eleven exponent bits,
pub exponent_bits_few : (f : Format) → f.emax ≤ 1023 → be f ≤ 11
unfolding be
exponent_bits_few f most = size-le (f.emax + 1) 11 (omega arith)

pub exponent_bits_most : (f : Format) → InRange f → be f ≤ 11
exponent_bits_most f r = exponent_bits_few f r.emax_most

-- so that its code fits a word
pub width_fits : (f : Format) → InRange f → width f ≤ 64
unfolding width
width_fits f r = omega (arith, exponent_bits_most f r)
