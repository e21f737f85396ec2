-- Codes without a sign stand in the order of the numbers that they stand for. Assumes nothing.
use mathlib.Core.Bool.{Bool, false}
use mathlib.Core.Path.{◌≡◌, sym, ap, ◌∙◌, subst}
use mathlib.Core.Logic.{◌⊎◌, inl, inr}
use Prim.Native.Nat.{ℕ, ◌-◌, ◌%◌, ◌^◌, ◌≤◌, ◌<◌}
use native.Mathlib.Nat.{lt_irrefl, lt_trans, lt_of_lt_of_le, lt_of_not-le, eq-or-lt_of_le}
use native.Mathlib.Omega.{arith}
use borrow.Author.Tests.{lt-leb}
use Rattle.patterns.specs.Patterns.{sign, infinity, val}
use Rattle.patterns.proofs.Values.{val_increasing}
use Rattle.patterns.proofs.Signs.{magnitude_is}
use Rattle.grid.specs.declared.Format.{Format}
use Rattle.layouts.specs.Fields.{HasCode, width, negative}
use Rattle.codes.specs.Packing.{infinity_fields}
use Rattle.bylayout.specs.Answers.{Unpacked, as_pattern}
use Rattle.codes.specs.Calls.{unpack_one}
use Rattle.codes.specs.Facts.{CodesInOrder, NumbersInOrder}
use Rattle.codes.proofs.Worth.{worth_of, worth_increasing}
use Rattle.codes.proofs.Numbers.{Number}
use Rattle.codes.proofs.Magnitudes.{magnitude_for, magnitude_infinity, magnitude_finite, magnitude_value}
use Rattle.codes.proofs.Parts.{coded}
use Rattle.codes.proofs.RoundTrips.{unpacked-has_code, unpacked_code, unpacked-number, unpacked_magnitude, unpacked-sign, unpacked-most}

-- a code that unpacks to a number without a sign, or to infinity
module _ (f : Format) (c x : ℕ) (e : unpack_one f c ≡ as_pattern x) (most : x ≤ infinity) where
  has : HasCode f
  has = unpacked-has_code f c x e

  -- has none itself, so it is its fields
  only_fields : c % 2 ^ (width f - 1) ≡ c
  unfolding sign
  only_fields =
      let plain : negative f c ≡ false = sym (unpacked-sign f c x e) ∙ lt-leb (2 ^ 63) x (omega arith) in
      sym (ap (λ (b : Bool). coded f b (c % 2 ^ (width f - 1))) plain) ∙ unpacked_code f c x e

  -- up to infinity's, which stand for the pattern
  number : Number f c
  number = subst (Number f) only_fields (unpacked-number f c x e)

  not_above : c ≤ infinity_fields f
  not_above =
      subst (λ (n : ℕ). n ≤ infinity_fields f) only_fields
      (unpacked-most f c x e (subst (λ (m : ℕ). m ≤ infinity) (sym (magnitude_is x most)) most))

  stands : x ≡ magnitude_for f c
  stands = sym (magnitude_is x most) ∙ unpacked_magnitude f c x e ∙ ap (magnitude_for f) only_fields

  -- it is a number, worth what its fields are,
  module _ (below : c < infinity_fields f) where
    finite : x < infinity
    finite = subst (λ (m : ℕ). m < infinity) (sym stands) (magnitude_finite f has c number below)

    value : val x ≡ worth_of f c
    value = ap val stands ∙ magnitude_value f has c number below

  -- or infinity
  infinite : c ≡ infinity_fields f → x ≡ infinity
  infinite at = stands ∙ ap (magnitude_for f) at ∙ magnitude_infinity f has

-- the larger code is worth more, or it is infinity's and the other is finite
pub codes_in_order : CodesInOrder
codes_in_order f c d x y first second x-most y-most less =
    let d-most = not_above f d y second y-most in
    let below = lt_of_lt_of_le less d-most in
    go below (eq-or-lt_of_le d-most)
  where
    go : c < infinity_fields f → (d ≡ infinity_fields f) ⊎ (d < infinity_fields f) → val x < val y
    go below (inl at) =
        subst (λ (z : ℕ). val x < val z) (sym (infinite f d y second y-most at))
        (val_increasing x infinity (finite f c x first x-most below))
    go below (inr under) =
        subst (λ (v : ℕ). v < val y) (sym (value f c x first x-most below))
        (subst (λ (v : ℕ). worth_of f c < v) (sym (value f d y second y-most under))
        (worth_increasing f (has f c x first x-most).range c d less))

-- and what is worth more has the larger code, since the codes compare one way or the other
pub numbers_in_order : NumbersInOrder
numbers_in_order f c d x y first second x-most y-most less = lt_of_not-le (λ (g : d ≤ c). go (eq-or-lt_of_le g))
  where
    go : (d ≡ c) ⊎ (d < c) → ⊥
    go (inl same) =
        let one : y ≡ x = ap (λ (u : Unpacked). u.pattern) (sym second ∙ ap (unpack_one f) same ∙ first) in
        lt_irrefl (val x) (subst (λ (z : ℕ). val x < val z) one less)
    go (inr over) = lt_irrefl (val x) (lt_trans less (codes_in_order f d c y x second first y-most x-most over))
