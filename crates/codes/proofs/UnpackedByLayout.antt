-- A code unpacked by its format's layout is unpacked as it is meant. Assumes nothing.
use mathlib.Core.Bool.{Bool, true, false, cond, not, ◌&&◌, and-true, and-false}
use mathlib.Core.Path.{◌≡◌, refl, sym, ap, ap₂, ◌∙◌, subst}
use mathlib.Core.Logic.{◌⊎◌, inl, inr}
use Prim.Native.Nat.{ℕ, ◌+◌, ◌-◌, ◌*◌, ◌/◌, ◌%◌, ◌^◌, ◌≤◌, ◌<◌}
use native.Mathlib.Nat.{le_trans, lt_of_lt_of_le, zero-mul, eq-or-lt_of_le, not-le_of_lt, ne_of_gt, div-eq_of_lt, mod-eq_of_lt, mod-lt}
use native.Mathlib.Omega.{arith}
use lib.Dec.{leb, ltb, eqb}
use lib.Pow.{pow_pos, pow_mono, suc_ones}
use borrow.Author.Tests.{lt-ltb, le-ltb, leb-false, ne_eqb}
use Rattle.laws.proofs.Orders.{below_or_not}
use Rattle.patterns.specs.Patterns.{mag, with_sign, infinity, pat}
use Rattle.patterns.proofs.Signs.{signed}
use Rattle.places.specs.Places.{moved_up}
use Rattle.grid.specs.declared.Format.{Format}
use Rattle.grid.specs.Formats.{emin, zeta_exp, smallest_normal}
use Rattle.grid.proofs.Steps.{zeta-sub, zeta_not_above}
use Rattle.layouts.specs.Fields.{HasCode, width}
use Rattle.layouts.specs.Layouts.{layout}
use Rattle.layouts.proofs.Splits.{exponent_is, fraction_is}
use Rattle.codes.specs.Unpacking.{pattern_of, no_number}
use Rattle.codes.specs.Packing.{infinity_fields}
use Rattle.bylayout.specs.Answers.{Unpacked, as_pattern, no_pattern}
use Rattle.codes.specs.Calls.{unpacked}
use Rattle.bylayout.specs.ByLayout.{small_pattern, magnitude_by, no_number_by, lifted, fields_in, unpacked_by}
use Rattle.bylayout.proofs.Unpackings.{unpacks_small, unpacks_normal, unpacks-infinity, unpacks_nan}
use Rattle.codes.proofs.Lifts.{sign_in, fields_in_lem}
use Rattle.codes.proofs.Worth.{worth_of, worth_small}
use Rattle.codes.proofs.Numbers.{Number, exponent_some, row_below}
use Rattle.codes.proofs.Magnitudes.{magnitude_for, magnitude_number, magnitude_infinity, magnitude_nan, magnitude_finite, magnitude_fits}
use Rattle.codes.proofs.Parts.{pattern_parts, passes_number}
use Rattle.codes.proofs.FieldPatterns.{small_pattern_is, normal_pattern_is}

module _ (f : Format) (h : HasCode f) where
  -- the first fields of the normal range
  abbrev first : ℕ
  first = 2 ^ (f.p - 1)

  -- ---- fields that are no number

  -- above 0 and below the normal range are those with exponent field 0 and a fraction
  small_alike : (n : ℕ) → (not (eqb n 0) && ltb n first) ≡ (eqb (n / first) 0 && not (eqb (n % first) 0))
  small_alike n = go (below_or_not n first)
    where
      go : (n < first) ⊎ (first ≤ n) → (not (eqb n 0) && ltb n first) ≡ (eqb (n / first) 0 && not (eqb (n % first) 0))
      go (inl small) =
          ap (λ (b : Bool). not (eqb n 0) && b) (lt-ltb n first small)
          ∙ and-true (not (eqb n 0))
          ∙ sym (ap₂ (λ (e m : ℕ). eqb e 0 && not (eqb m 0)) (div-eq_of_lt small) (mod-eq_of_lt small))
      go (inr normal) =
          ap (λ (b : Bool). not (eqb n 0) && b) (le-ltb n first normal)
          ∙ and-false (not (eqb n 0))
          ∙ sym (ap (λ (b : Bool). b && not (eqb (n % first) 0)) (ne_eqb (n / first) 0 (ne_of_gt (exponent_some f h n normal))))

  no_number_by-layout : (c : ℕ) → no_number_by (layout f) (c % 2 ^ (width f - 1)) ≡ no_number f c
  unfolding layout no_number_by no_number
  no_number_by-layout c =
      ap (λ (b : Bool). not f.sub && b)
      (small_alike (c % 2 ^ (width f - 1))
      ∙ ap₂ (λ (e m : ℕ). eqb e 0 && not (eqb m 0)) (sym (exponent_is f h c)) (sym (fraction_is f h c)))

  -- ---- the magnitude pattern

  -- below the normal range fields count last places of the smallest normal number, which are zeta where any of them is a number
  small_worth : (n : ℕ) → n < first → Number f n → n * 2 ^ zeta_exp f ≡ worth_of f n
  small_worth n small number = go number ∙ sym (worth_small f h.range n small)
    where
      go : Number f n → n * 2 ^ zeta_exp f ≡ n * 2 ^ (emin f + 1 - f.p)
      go (inl kept) = ap (λ (k : ℕ). n * 2 ^ k) (zeta-sub f h.range kept)
      go (inr (inl none)) = nothing (zeta_exp f) ∙ sym (nothing (emin f + 1 - f.p))
        where
          nothing : (k : ℕ) → n * 2 ^ k ≡ 0
          nothing k = ap (λ (x : ℕ). x * 2 ^ k) none ∙ zero-mul (2 ^ k)
      go (inr (inr reached)) = absurd (not-le_of_lt small reached)

  -- a number's
  number_by_layout : (n : ℕ) → n < infinity_fields f → Number f n → magnitude_by (layout f) n ≡ magnitude_for f n
  unfolding layout infinity_fields moved_up emin
  number_by_layout n below number = go (below_or_not n first) ∙ sym (magnitude_number f h n below)
    where
      y : ℕ
      y = pat (worth_of f n)

      finite : y < infinity
      finite = subst (λ (m : ℕ). m < infinity) (magnitude_number f h n below) (magnitude_finite f h n number below)

      go : (n < first) ⊎ (first ≤ n) → magnitude_by (layout f) n ≡ y
      go (inl small) =
          let few : n < 2 ^ 52 = lt_of_lt_of_le small (pow_mono {i = f.p - 1} {j = 52} (omega (arith, h.range))) in
          let low : zeta_exp f ≤ 1074 = omega (arith, h.range, zeta_not_above f h.range) in
          let made : small_pattern (zeta_exp f) n ≡ y =
          small_pattern_is (zeta_exp f) n few low ∙ ap pat (small_worth n small number) in
          sym (unpacks_small (layout f) n small y (sym made))
      go (inr normal) =
          let s = (n - first) * 2 ^ (53 - f.p) in
          let made : y ≡ s + pat (smallest_normal f) = normal_pattern_is f h.range n normal in
          sym (unpacks_normal (layout f) n normal below s (omega (arith, finite)) y (omega (arith, finite)))

  -- infinity's, and a NaN's
  other_by_layout : (n : ℕ) → infinity_fields f ≤ n → n < 2 ^ (width f - 1) → magnitude_by (layout f) n ≡ magnitude_for f n
  unfolding layout infinity_fields
  other_by_layout n past fits = go (eq-or-lt_of_le past)
    where
      normal : first ≤ n
      normal = le_trans (row_below f h) past

      go : (infinity_fields f ≡ n) ⊎ (infinity_fields f < n) → magnitude_by (layout f) n ≡ magnitude_for f n
      go (inl at) =
          sym (unpacks-infinity (layout f) n normal past (sym at)) ∙ sym (magnitude_infinity f h) ∙ ap (magnitude_for f) at
      go (inr above) = sym (unpacks_nan (layout f) n normal past (ne_of_gt above)) ∙ sym (magnitude_nan f h n above fits)

  magnitude_by-layout : (n : ℕ) → n < 2 ^ (width f - 1) → Number f n → magnitude_by (layout f) n ≡ magnitude_for f n
  magnitude_by-layout n fits number = go (below_or_not n (infinity_fields f))
    where
      go : (n < infinity_fields f) ⊎ (infinity_fields f ≤ n) → magnitude_by (layout f) n ≡ magnitude_for f n
      go (inl below) = number_by_layout n below number
      go (inr past) = other_by_layout n past fits

  -- ---- the whole code

  -- the pattern that the layout gives
  abbrev pattern_by : ℕ → ℕ
  pattern_by c = with_sign (lifted (layout f) c) (magnitude_by (layout f) (fields_in (layout f) c))

  pattern_by_layout : (c : ℕ) → c < 2 ^ width f → no_number f c ≡ false → pattern_by c ≡ pattern_of f c
  unfolding with_sign mag
  pattern_by_layout c fits passed =
      let n = c % 2 ^ (width f - 1) in
      let within : n < 2 ^ (width f - 1) = mod-lt c (pow_pos (width f - 1)) in
      let number : Number f n = passes_number f h c n refl passed in
      let same = ap (magnitude_by (layout f)) (fields_in_lem f h c fits) ∙ magnitude_by-layout n within number in
      ap₂ signed (sign_in f h c fits) (ap mag same ∙ mod-eq_of_lt (magnitude_fits f h n number within))
      ∙ sym (pattern_parts f h c n refl)

  -- a code is refused or has its pattern
  number_or_none : (c : ℕ) → c < 2 ^ width f → (b : Bool) → no_number f c ≡ b
      → cond b (no_pattern 10) (as_pattern (pattern_by c)) ≡ cond b (no_pattern 10) (as_pattern (pattern_of f c))
  number_or_none c fits true none = refl
  number_or_none c fits false passed = ap as_pattern (pattern_by_layout c fits passed)

  -- and what is none is refused before
  pub unpacked_by-layout : (c : ℕ) → unpacked_by (layout f) c ≡ unpacked f c
  unfolding layout unpacked_by unpacked
  unpacked_by-layout c =
      ap (λ (least : ℕ). cond (leb least c) (no_pattern 9) (answer none y)) (suc_ones (width f)) ∙ go (leb (2 ^ width f) c) refl
    where
      y : ℕ
      y = pattern_by c

      none : Bool
      none = no_number_by (layout f) (fields_in (layout f) c)

      answer : Bool → ℕ → Unpacked
      answer b x = cond b (no_pattern 10) (as_pattern x)

      go : (b : Bool) → leb (2 ^ width f) c ≡ b
          → cond b (no_pattern 9) (answer none y) ≡ cond b (no_pattern 9) (answer (no_number f c) (pattern_of f c))
      go true wide = refl
      go false narrow =
          let fits : c < 2 ^ width f = leb-false (2 ^ width f) c narrow in
          let tested : none ≡ no_number f c = ap (no_number_by (layout f)) (fields_in_lem f h c fits) ∙ no_number_by-layout c in
          ap (λ (b : Bool). answer b y) tested ∙ number_or_none c fits (no_number f c) refl
