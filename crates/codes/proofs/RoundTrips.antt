-- Packing and unpacking undo each other: the facts that are stated in specs/Facts.antt about the two together. Assumes nothing.
use mathlib.Core.Bool.{Bool, true, false}
use mathlib.Core.Path.{◌≡◌, refl, sym, ap, ap₂, ◌∙◌}
use mathlib.Core.Logic.{inr}
use Prim.Native.Nat.{ℕ, ◌-◌, ◌%◌, ◌^◌, ◌≤◌, ◌<◌}
use native.Mathlib.Nat.{le_of_lt, lt_of_le_of_lt, mod-lt}
use native.Mathlib.Omega.{arith}
use lib.Pow.{pow_pos}
use Rattle.laws.proofs.Orders.{le_of_not_lt}
use Rattle.patterns.specs.declared.Kind.TheVariants.{NaN}
use Rattle.patterns.specs.Patterns.{sign, mag, with_sign, infinity, quiet_nan, kind_of}
use Rattle.patterns.proofs.PatternKinds.{number_not_above}
use Rattle.patterns.proofs.Signs.{signed, signed_magnitude, signed-sign, pattern_signed}
use Rattle.grid.specs.declared.Format.{Format}
use Rattle.layouts.specs.Fields.{HasCode, width, negative}
use Rattle.layouts.proofs.Splits.{parts_are_code}
use Rattle.layouts.proofs.Refusals.{accepted-has_code}
use Rattle.codes.specs.Packing.{infinity_fields, nan_fields, code_of, in_format}
use Rattle.bylayout.specs.Answers.{Packed, Unpacked, as_code, no_code, as_pattern}
use Rattle.codes.specs.Calls.{pack_one, unpack_one}
use Rattle.codes.specs.Facts.{UnpackPack, PackUnpack, NaNPackUnpack, RefusesWithoutCode, RefusesOnlyWithoutCode, CodesApart}
use Rattle.codes.proofs.Numbers.{Number, row_below}
use Rattle.codes.proofs.Magnitudes.{magnitude_for, fields_for, infinity_fields_fit, nan_fields_above, nan_fields_fit, magnitude_nan, magnitude_fits, nan_fields_lem, nan_has, stands_has, stands_fields, fields_most, fields_are_number, fields_stand}
use Rattle.codes.proofs.Answers.{pack_has_code, refused-has_code, in_format-packs, not_in_format-refused, packs-in_format, packs_code, unpack_has_code, unpacks-fits, unpacks-number, unpacks_pattern}
use Rattle.codes.proofs.Parts.{coded, code_parts, pattern_parts, passes_number, parts_unpack}

-- ---- a code that unpacks

module _ (f : Format) (c x : ℕ) (e : unpack_one f c ≡ as_pattern x) where
  accepted : (unpack_one f c).number ≡ 0
  accepted = ap (λ (u : Unpacked). u.number) e

  pub unpacked-has_code : HasCode f
  unpacked-has_code = unpack_has_code f c accepted

  -- its fields
  abbrev fields : ℕ
  fields = c % 2 ^ (width f - 1)

  fields_fit : fields < 2 ^ (width f - 1)
  fields_fit = mod-lt c (pow_pos (width f - 1))

  -- with its sign they are the code
  pub unpacked_code : coded f (negative f c) fields ≡ c
  unpacked_code = parts_are_code f unpacked-has_code c (unpacks-fits f c accepted)

  -- they are a number, an infinity or a NaN
  pub unpacked-number : Number f fields
  unpacked-number = passes_number f unpacked-has_code c fields refl (unpacks-number f c accepted)

  -- the pattern has the code's sign, and the magnitude that the fields stand for
  unpacked_parts : signed (negative f c) (magnitude_for f fields) ≡ x
  unpacked_parts = sym (pattern_parts f unpacked-has_code c fields refl) ∙ unpacks_pattern f c x e

  -- which leaves the sign bit free
  unpacked-fits : magnitude_for f fields < 2 ^ 63
  unpacked-fits = magnitude_fits f unpacked-has_code fields unpacked-number fields_fit

  pub unpacked_magnitude : mag x ≡ magnitude_for f fields
  unpacked_magnitude = ap mag (sym unpacked_parts) ∙ signed_magnitude (negative f c) (magnitude_for f fields) unpacked-fits

  pub unpacked-sign : sign x ≡ negative f c
  unpacked-sign = ap sign (sym unpacked_parts) ∙ signed-sign (negative f c) (magnitude_for f fields) unpacked-fits

  -- where the pattern is no NaN, the fields are at most infinity's
  pub unpacked-most : mag x ≤ infinity → fields ≤ infinity_fields f
  unpacked-most most = le_of_not_lt over
    where
      over : infinity_fields f < fields → ⊥
      over g = omega (arith, most, unpacked_magnitude, magnitude_nan f unpacked-has_code fields g fields_fit)

-- so the format has the pattern, and its code is the one that was unpacked
pub unpack_pack : UnpackPack
unpack_pack f c x e number =
    let h = unpacked-has_code f c x e in
    let n = c % 2 ^ (width f - 1) in
    let most : n ≤ infinity_fields f = unpacked-most f c x e (number_not_above x number) in
    let standing = unpacked_magnitude f c x e in
    in_format-packs f x h (stands_has f h n (unpacked-number f c x e) most x standing)
    ∙ ap as_code
    (code_parts f x
    ∙ ap₂ (coded f) (unpacked-sign f c x e) (stands_fields f h n (unpacked-number f c x e) most x standing)
    ∙ unpacked_code f c x e)

-- ---- a pattern that packs

module _ (f : Format) (h : HasCode f) where
  -- the code of a number or an infinity of the format unpacks to it,
  packs-unpacks : (x : ℕ) → x < 2 ^ 64 → mag x ≤ infinity → in_format f x ≡ true → unpack_one f (code_of f x) ≡ as_pattern x
  packs-unpacks x fits most has =
      let n = fields_for f x in
      let room = infinity_fields_fit f h in
      let below : n < 2 ^ (width f - 1) = omega (arith, fields_most f h x most has, pow_pos (f.p - 1)) in
      ap (unpack_one f) (code_parts f x)
      ∙ parts_unpack f h n below (fields_are_number f h x most has) (sign x)
      ∙ ap as_pattern (ap (signed (sign x)) (fields_stand f h x most has) ∙ pattern_signed x fits)

  -- and the code of a NaN to the one NaN with its sign
  nan_unpacks : (x : ℕ) → kind_of x ≡ NaN → unpack_one f (code_of f x) ≡ as_pattern (with_sign x quiet_nan)
  unfolding with_sign mag
  nan_unpacks x nan =
      let n = nan_fields f in
      let above = nan_fields_above f h in
      let fits = nan_fields_fit f h in
      ap (unpack_one f) (code_parts f x ∙ ap (coded f (sign x)) (nan_fields_lem f h x nan))
      ∙ parts_unpack f h n fits (inr (inr (le_of_lt (lt_of_le_of_lt (row_below f h) above)))) (sign x)
      ∙ ap (λ (m : ℕ). as_pattern (signed (sign x) m)) (magnitude_nan f h n above fits)

-- so every code that packing gives unpacks, NaNs with their sign
pub pack_unpack : PackUnpack
pack_unpack f x c fits e number =
    let none : (pack_one f x).number ≡ 0 = ap (λ (u : Packed). u.number) e in
    ap (unpack_one f) (sym (packs_code f x c e))
    ∙ packs-unpacks f (pack_has_code f x none) x fits (number_not_above x number) (packs-in_format f x none)

pub nan_pack_unpack : NaNPackUnpack
nan_pack_unpack f x c e nan =
    let none : (pack_one f x).number ≡ 0 = ap (λ (u : Packed). u.number) e in
    ap (unpack_one f) (sym (packs_code f x c e)) ∙ nan_unpacks f (pack_has_code f x none) x nan

-- ---- what packing refuses

-- a pattern that no code unpacks to is none of the format's: otherwise its code would
pub refuses_without_code : RefusesWithoutCode
refuses_without_code f x fits accepted lacks = go (in_format f x) refl
  where
    h : HasCode f
    h = accepted-has_code f accepted

    go : (b : Bool) → in_format f x ≡ b → pack_one f x ≡ no_code 8
    go false t = not_in_format-refused f x h t
    go true t =
        absurd
        (lacks.none (code_of f x) (unpacks-fits f (code_of f x) (ap (λ (u : Unpacked). u.number) unpacks)) unpacks)
      where
        unpacks : unpack_one f (code_of f x) ≡ as_pattern x
        unpacks = packs-unpacks f h x fits (number_not_above x lacks.no_nan) t

-- and one that is refused has no code: it would pack
pub refuses_only_without_code : RefusesOnlyWithoutCode
refuses_only_without_code f x e =
    record { no_nan = number; none = λ c small unpacks. apart (unpack_pack f c x unpacks number) }
  where
    eight : (pack_one f x).number ≡ 8
    eight = ap (λ (u : Packed). u.number) e

    -- a code is no refusal
    apart : {c : ℕ} → pack_one f x ≡ as_code c → ⊥
    apart packs = omega (arith, eight, ap (λ (u : Packed). u.number) packs)

    number : kind_of x ≡ NaN → ⊥
    number nan =
        let h = refused-has_code f x eight in
        apart (in_format-packs f x h (nan_has f h x nan))

-- ---- no two codes stand for one pattern: both would be the pattern's code

pub codes_apart : CodesApart
codes_apart f c d x first second number =
    ap (λ (u : Packed). u.code) (sym (unpack_pack f c x first number) ∙ unpack_pack f d x second number)
