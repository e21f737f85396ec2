-- binary64 itself, p = 53 and emax = 1023 with subnormals: every pattern that is no NaN is its own code. Assumes nothing.
use mathlib.Core.Bool.{true, cond}
use mathlib.Core.Path.{◌≡◌, refl, sym, ap, ap₂, ◌∙◌, subst}
use mathlib.Core.Logic.{◌⊎◌, inl, inr}
use Prim.Native.Nat.{ℕ, ◌+◌, ◌-◌, ◌*◌, ◌^◌, ◌≤◌, ◌<◌}
use native.Mathlib.Nat.{mul-one, eq-or-lt_of_le}
use native.Mathlib.Omega.{arith}
use Rattle.patterns.specs.declared.Kind.TheVariants.{NaN}
use Rattle.patterns.specs.Patterns.{sign, mag, infinity, kind_of, val, pat}
use Rattle.patterns.proofs.Values.{pat-val}
use Rattle.patterns.proofs.PatternKinds.{number_not_above}
use Rattle.patterns.proofs.Signs.{signed, pattern_signed, magnitude_below}
use Rattle.grid.specs.declared.Format.{Format}
use Rattle.grid.specs.Formats.{emin}
use Rattle.layouts.specs.Fields.{HasCode, width}
use Rattle.layouts.proofs.Fields.{exponent_bits, ones_are}
use Rattle.codes.specs.Packing.{infinity_fields}
use Rattle.bylayout.specs.Answers.{as_code, as_pattern}
use Rattle.codes.specs.Calls.{pack_one, unpack_one}
use Rattle.codes.proofs.Worth.{worth_of, worth_by_pattern}
use Rattle.codes.proofs.Magnitudes.{magnitude_for, magnitude_number, magnitude_infinity}
use Rattle.codes.proofs.Parts.{coded, parts_unpack}
use Rattle.codes.proofs.RoundTrips.{unpack_pack}

module _ (f : Format) (p-is : f.p ≡ 53) (emax-is : f.emax ≡ 1023) (kept : f.sub ≡ true) where
  -- it has a code, of 64 bits
  widest : HasCode f
  widest =
      record {
        range = record { p_least = omega arith; p_most = omega arith; emax_least = omega arith; emax_most = omega arith };
        digits = 10;
        power = ap (λ (e : ℕ). e + 1) emax-is;
      }

  widest_width : width f ≡ 64
  unfolding width widest
  widest_width = ap₂ (λ (b p : ℕ). b + p) (exponent_bits f widest) p-is

  -- whose infinity has the fields of infinity's pattern,
  widest_infinity : infinity_fields f ≡ infinity
  unfolding infinity_fields
  widest_infinity = ap₂ (λ (o p : ℕ). o * 2 ^ (p - 1)) (ones_are f widest ∙ ap (λ (e : ℕ). 2 * e + 1) emax-is) p-is

  -- and whose fields are worth what the pattern of the same bits is worth,
  widest_worth : (n : ℕ) → worth_of f n ≡ val n
  unfolding emin
  widest_worth n =
      worth_by_pattern f widest.range n
      ∙ ap₂ (λ (p e : ℕ). val (n * 2 ^ (53 - p)) * 2 ^ (1075 - e - 52)) p-is emax-is
      ∙ mul-one (val (n * 1))
      ∙ ap val (mul-one n)

  -- so that they stand for it
  widest_magnitude : (n : ℕ) → n ≤ infinity → magnitude_for f n ≡ n
  widest_magnitude n most = go (eq-or-lt_of_le most)
    where
      go : (n ≡ infinity) ⊎ (n < infinity) → magnitude_for f n ≡ n
      go (inl at) = ap (magnitude_for f) (at ∙ sym widest_infinity) ∙ magnitude_infinity f widest ∙ sym at
      go (inr below) =
          magnitude_number f widest n (subst (λ (k : ℕ). n < k) (sym widest_infinity) below) ∙ ap pat (widest_worth n) ∙ pat-val n

  module _ (x : ℕ) (fits : x < 2 ^ 64) (number : kind_of x ≡ NaN → ⊥) where
    pub widest_unpacks : unpack_one f x ≡ as_pattern x
    widest_unpacks =
        let below : mag x < 2 ^ (width f - 1) =
        subst (λ (k : ℕ). mag x < 2 ^ (k - 1)) (sym widest_width) (magnitude_below x (mag x) refl) in
        let whole : coded f (sign x) (mag x) ≡ x =
        ap (λ (k : ℕ). cond (sign x) (2 ^ (k - 1) + mag x) (mag x)) widest_width ∙ pattern_signed x fits in
        ap (unpack_one f) (sym whole)
        ∙ parts_unpack f widest (mag x) below (inl kept) (sign x)
        ∙ ap as_pattern (ap (signed (sign x)) (widest_magnitude (mag x) (number_not_above x number)) ∙ pattern_signed x fits)

    pub widest_packs : pack_one f x ≡ as_code x
    widest_packs = unpack_pack f x x widest_unpacks number
