-- A code as its sign and its fields n, and the pattern as its sign and its magnitude. Assumes nothing.
use mathlib.Core.Bool.{Bool, true, false, cond, not, ◌&&◌, and-false, false≢true}
use mathlib.Core.Path.{◌≡◌, refl, sym, ap, ap₂, ◌∙◌}
use mathlib.Core.Logic.{inl, inr}
use Prim.Native.Nat.{ℕ, ◌+◌, ◌-◌, ◌*◌, ◌/◌, ◌%◌, ◌^◌, ◌<◌}
use native.Mathlib.Nat.{ne_of_gt, zero-mod, div-eq_of_lt, div-add-mod'}
use native.Mathlib.Omega.{arith}
use lib.Dec.{eqb}
use borrow.Author.Tests.{eq-eqb, ne_eqb, eqb-true, eqb-false}
use Rattle.laws.proofs.Orders.{le_of_not_lt}
use Rattle.patterns.specs.Patterns.{sign}
use Rattle.patterns.proofs.Signs.{signed}
use Rattle.grid.specs.declared.Format.{Format}
use Rattle.layouts.specs.Fields.{HasCode, width, negative, exponent, fraction}
use Rattle.layouts.proofs.Splits.{exponent_is, fraction_is, parts_fit, parts_fields, parts_sign}
use Rattle.codes.specs.Unpacking.{magnitude_of, pattern_of, no_number}
use Rattle.codes.specs.Packing.{code_of}
use Rattle.bylayout.specs.Answers.{as_pattern}
use Rattle.codes.specs.Calls.{unpack_one}
use Rattle.codes.proofs.Numbers.{Number, exponent_some}
use Rattle.codes.proofs.Magnitudes.{magnitude_for, fields_for}
use Rattle.codes.proofs.Answers.{number-unpacks}

-- ---- a code

-- of a sign and fields
abbrev pub coded : Format → Bool → ℕ → ℕ
coded f b n = cond b (2 ^ (width f - 1) + n) n

-- a pattern's code is of its sign and its fields
pub code_parts : (f : Format) (x : ℕ) → code_of f x ≡ coded f (sign x) (fields_for f x)
unfolding code_of
code_parts f x = refl

module _ (f : Format) (h : HasCode f) where
  abbrev row : ℕ
  row = 2 ^ (f.p - 1)

  module _ (c n : ℕ) (fields : c % 2 ^ (width f - 1) ≡ n) where
    exponent_at : exponent f c ≡ n / row
    exponent_at = exponent_is f h c ∙ ap (λ (k : ℕ). k / row) fields

    fraction_at : fraction f c ≡ n % row
    fraction_at = fraction_is f h c ∙ ap (λ (k : ℕ). k % row) fields

    -- a code's pattern is of its sign and what its fields stand for
    pub pattern_parts : pattern_of f c ≡ signed (negative f c) (magnitude_for f n)
    unfolding pattern_of
    pattern_parts = ap (signed (negative f c)) (ap₂ (magnitude_of f) exponent_at fraction_at)

    -- the test of a code says that its fields are no number
    number_at : no_number f c ≡ (not f.sub && (eqb (n / row) 0 && not (eqb (n % row) 0)))
    unfolding no_number
    number_at = ap₂ (λ (e m : ℕ). not f.sub && (eqb e 0 && not (eqb m 0))) exponent_at fraction_at

    number_passes : Number f n → no_number f c ≡ false
    number_passes number = number_at ∙ go number
      where
        go : Number f n → (not f.sub && (eqb (n / row) 0 && not (eqb (n % row) 0))) ≡ false
        go (inl kept) = simp kept
        go (inr (inl none)) =
            let whole : n % row ≡ 0 = ap (λ (k : ℕ). k % row) none ∙ zero-mod (row) in
            ap (λ (b : Bool). not f.sub && (eqb (n / row) 0 && not b)) (eq-eqb (n % row) 0 whole)
            ∙ ap (λ (b : Bool). not f.sub && b) (and-false (eqb (n / row) 0))
            ∙ and-false (not f.sub)
        go (inr (inr reached)) =
            ap (λ (b : Bool). not f.sub && (b && not (eqb (n % row) 0)))
            (ne_eqb (n / row) 0 (ne_of_gt (exponent_some f h n reached)))
            ∙ and-false (not f.sub)

    pub passes_number : no_number f c ≡ false → Number f n
    passes_number passed = go f.sub refl (eqb (n / row) 0) refl (eqb (n % row) 0) refl (sym number_at ∙ passed)
      where
        go : (s : Bool) → f.sub ≡ s → (e : Bool) → eqb (n / row) 0 ≡ e → (m : Bool) → eqb (n % row) 0 ≡ m
            → (not s && (e && not m)) ≡ false → Number f n
        go true kept e a m b t = inl kept
        go false k false a m b t = inr (inr (le_of_not_lt (λ (few : n < row). eqb-false (n / row) 0 a (div-eq_of_lt few))))
        go false k true a true b t =
            inr (inl (sym (div-add-mod' n (row))
            ∙ ap₂ (λ (q r : ℕ). q * row + r) (eqb-true (n / row) 0 a) (eqb-true (n % row) 0 b)
            ∙ omega arith))
        go false k true a false b t = absurd (false≢true (sym t))

  -- a code of a sign and of fields that are a number unpacks to what they stand for, with the sign
  pub parts_unpack : (n : ℕ) → n < 2 ^ (width f - 1) → Number f n → (b : Bool)
      → unpack_one f (coded f b n) ≡ as_pattern (signed b (magnitude_for f n))
  parts_unpack n below number b =
      let c = coded f b n in
      let fields = parts_fields f h n below b in
      number-unpacks f c h (parts_fit f h n below b) (number_passes c n fields number)
      ∙ ap as_pattern (pattern_parts c n fields ∙ ap (λ (t : Bool). signed t (magnitude_for f n)) (parts_sign f h n below b))
