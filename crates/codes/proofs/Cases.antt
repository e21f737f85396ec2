-- Closed cases that hold the definitions to document 01 and to rows of vectors/stdin: antt computes both sides. A definition
-- changed to give another answer at one of these fails here, whatever else is still provable. Assumes nothing.
use mathlib.Core.Bool.{true, false}
use mathlib.Core.List.{[], ◌∷◌, map}
use mathlib.Core.Path.{◌≡◌, refl}
use Prim.Native.Nat.{ℕ}
use lib.Ieee.{size}
use Rattle.patterns.specs.Patterns.{sign, mag, kind_of, worth, val, pat}
use Rattle.grid.specs.Formats.{between, precision_fits, exponent_fits, emin, etop, zeta_exp, step_exp, step, T}
use Rattle.grid.specs.Neighbours.{lo, held}
use Rattle.grid.proofs.Cases.{format}
use Rattle.layouts.specs.Fields.{be, has_code, width, negative, exponent, fraction, bias, ones}
use Rattle.layouts.specs.Calls.{format_refusal}
use Rattle.codes.specs.Unpacking.{worth_in, magnitude_of, pattern_of, no_number}
use Rattle.codes.specs.Packing.{fields_of, infinity_fields, nan_fields, fields_by, code_of, has_by, in_format}
use Rattle.bylayout.specs.Answers.{as_code, no_code, as_pattern, no_pattern}
use Rattle.codes.specs.Calls.{packed, unpacked, pack_one, unpack_one}

-- ---- binary16, with subnormals

-- document 01's 1, 65504, infinity, 2^-24, minus zero, and one and a half times 2^-24, which it lacks; then minus 1, a NaN of either sign,
-- and a number with a digit too many
binary16-packed : map (pack_one (format 11 15 true))
    (0x3FF0_0000_0000_0000
    ∷ 0x40EF_FC00_0000_0000
    ∷ 0x7FF0_0000_0000_0000
    ∷ 0x3E70_0000_0000_0000
    ∷ 0x8000_0000_0000_0000
    ∷ 0x3E78_0000_0000_0000
    ∷ 0xBFF0_0000_0000_0000
    ∷ 0x7FF7_FFFF_FFFF_FFFF
    ∷ 0xFFF0_0000_0000_0001
    ∷ 0x3F0F_FC00_0000_0001
    ∷ [])
    ≡ as_code 0x3C00
    ∷ as_code 0x7BFF
    ∷ as_code 0x7C00
    ∷ as_code 0x0001
    ∷ as_code 0x8000
    ∷ no_code 8
    ∷ as_code 0xBC00
    ∷ as_code 0x7E00
    ∷ as_code 0xFE00
    ∷ no_code 8
    ∷ []
unfolding pack_one packed format_refusal precision_fits exponent_fits between has_code be width ones in_format has_by held lo step
    step_exp zeta_exp emin etop T code_of fields_by fields_of infinity_fields nan_fields kind_of sign mag val worth size
binary16-packed = refl

-- the codes of the first five, a subnormal number, two NaNs, of which the second loses its fraction, and a code of 17 bits
binary16-unpacked : map (unpack_one (format 11 15 true))
    (0x3C00
    ∷ 0x7BFF
    ∷ 0x7C00
    ∷ 0x0001
    ∷ 0x8000
    ∷ 0x0017
    ∷ 0x7E00
    ∷ 0xFC01
    ∷ 0x0001_0000
    ∷ [])
    ≡ as_pattern 0x3FF0_0000_0000_0000
    ∷ as_pattern 0x40EF_FC00_0000_0000
    ∷ as_pattern 0x7FF0_0000_0000_0000
    ∷ as_pattern 0x3E70_0000_0000_0000
    ∷ as_pattern 0x8000_0000_0000_0000
    ∷ as_pattern 0x3EB7_0000_0000_0000
    ∷ as_pattern 0x7FF8_0000_0000_0000
    ∷ as_pattern 0xFFF8_0000_0000_0000
    ∷ no_pattern 9
    ∷ []
unfolding unpack_one unpacked format_refusal precision_fits exponent_fits between has_code be width ones bias no_number negative
    exponent fraction pattern_of magnitude_of worth_in emin pat size
binary16-unpacked = refl

-- ---- and without them

-- 2^-15 is none of its numbers
normal_packed : map (pack_one (format 11 15 false))
    (0x3F00_0000_0000_0000 ∷ 0xBF17_FC00_0000_0000 ∷ 0xFFF4_0000_0000_0000 ∷ [])
    ≡ no_code 8
    ∷ as_code 0x85FF
    ∷ as_code 0xFE00
    ∷ []
unfolding pack_one packed format_refusal precision_fits exponent_fits between has_code be width ones in_format has_by held lo step
    step_exp zeta_exp emin etop T code_of fields_by fields_of infinity_fields nan_fields kind_of sign mag val worth size
normal_packed = refl

-- an exponent field of 0 with a fraction is refused as 10, with either sign; and a code of 17 bits as 9, though its fields are such
normal_unpacked : map (unpack_one (format 11 15 false))
    (0x006B ∷ 0x8002 ∷ 0x0000 ∷ 0x8400 ∷ 0xFC00 ∷ 0x0001_0001 ∷ [])
    ≡ no_pattern 10
    ∷ no_pattern 10
    ∷ as_pattern 0x0000_0000_0000_0000
    ∷ as_pattern 0xBF10_0000_0000_0000
    ∷ as_pattern 0xFFF0_0000_0000_0000
    ∷ no_pattern 9
    ∷ []
unfolding unpack_one unpacked format_refusal precision_fits exponent_fits between has_code be width ones bias no_number negative
    exponent fraction pattern_of magnitude_of worth_in emin pat size
normal_unpacked = refl

-- ---- the ends of p and k

-- p = 2 and emax = 1 have 0, 1/2, 1, 3/2, 2, 3, infinity and NaN; then minus 1, minus infinity, and a code of 64 bits
narrowest_unpacked : map (unpack_one (format 2 1 true))
    (0x0000
    ∷ 0x0001
    ∷ 0x0002
    ∷ 0x0003
    ∷ 0x0004
    ∷ 0x0005
    ∷ 0x0006
    ∷ 0x0007
    ∷ 0x000A
    ∷ 0x000E
    ∷ 0x8000_0000_0000_0000
    ∷ [])
    ≡ as_pattern 0x0000_0000_0000_0000
    ∷ as_pattern 0x3FE0_0000_0000_0000
    ∷ as_pattern 0x3FF0_0000_0000_0000
    ∷ as_pattern 0x3FF8_0000_0000_0000
    ∷ as_pattern 0x4000_0000_0000_0000
    ∷ as_pattern 0x4008_0000_0000_0000
    ∷ as_pattern 0x7FF0_0000_0000_0000
    ∷ as_pattern 0x7FF8_0000_0000_0000
    ∷ as_pattern 0xBFF0_0000_0000_0000
    ∷ as_pattern 0xFFF0_0000_0000_0000
    ∷ no_pattern 9
    ∷ []
unfolding unpack_one unpacked format_refusal precision_fits exponent_fits between has_code be width ones bias no_number negative
    exponent fraction pattern_of magnitude_of worth_in emin pat size
narrowest_unpacked = refl

-- 2, minus 1/2, minus 3/2 and a NaN, whose code has its only fraction bit set
narrowest_packed : map (pack_one (format 2 1 true))
    (0x4000_0000_0000_0000 ∷ 0xBFE0_0000_0000_0000 ∷ 0xBFF8_0000_0000_0000 ∷ 0xFFF7_FFFF_FFFF_FFFF ∷ [])
    ≡ as_code 0x0004
    ∷ as_code 0x0009
    ∷ as_code 0x000B
    ∷ as_code 0x000F
    ∷ []
unfolding pack_one packed format_refusal precision_fits exponent_fits between has_code be width ones in_format has_by held lo step
    step_exp zeta_exp emin etop T code_of fields_by fields_of infinity_fields nan_fields kind_of sign mag val worth size
narrowest_packed = refl

-- p = 53 and emax = 1: a subnormal number, a normal one, infinity, and a number with a digit too many
long_fraction-packed : map (pack_one (format 53 1 true))
    (0x3FEE_A55E_A7C4_8738 ∷ 0x4000_0000_0000_0001 ∷ 0x7FF0_0000_0000_0000 ∷ 0x3FE9_8C60_B658_CC4D ∷ [])
    ≡ as_code 0x000F_52AF_53E2_439C
    ∷ as_code 0x0020_0000_0000_0001
    ∷ as_code 0x0030_0000_0000_0000
    ∷ no_code 8
    ∷ []
unfolding pack_one packed format_refusal precision_fits exponent_fits between has_code be width ones in_format has_by held lo step
    step_exp zeta_exp emin etop T code_of fields_by fields_of infinity_fields nan_fields kind_of sign mag val worth size
long_fraction-packed = refl

-- without subnormals: no number, minus xmax, infinity, and a code of 64 bits, which are nine more than k
long_fraction-unpacked : map (unpack_one (format 53 1 false))
    (0x0002_7928_61C4_F7FF ∷ 0x006F_FFFF_FFFF_FFFF ∷ 0x0030_0000_0000_0000 ∷ 0xFFFF_FFFF_FFFF_FFFF ∷ [])
    ≡ no_pattern 10
    ∷ as_pattern 0xC00F_FFFF_FFFF_FFFF
    ∷ as_pattern 0x7FF0_0000_0000_0000
    ∷ no_pattern 9
    ∷ []
unfolding unpack_one unpacked format_refusal precision_fits exponent_fits between has_code be width ones bias no_number negative
    exponent fraction pattern_of magnitude_of worth_in emin pat size
long_fraction-unpacked = refl

-- binary64 has k = 64, and its codes are the patterns, but that a NaN loses its fraction
binary64_packed : map (pack_one (format 53 1023 true))
    (0x0000_0000_0000_0004 ∷ 0x7FF7_FFFF_FFFF_FFFF ∷ [])
    ≡ as_code 0x0004
    ∷ as_code 0x7FF8_0000_0000_0000
    ∷ []
unfolding pack_one packed format_refusal precision_fits exponent_fits between has_code be width ones in_format has_by held lo step
    step_exp zeta_exp emin etop T code_of fields_by fields_of infinity_fields nan_fields kind_of sign mag val worth size
binary64_packed = refl

-- and back
binary64_unpacked : map (unpack_one (format 53 1023 true))
    (0x800E_FA58_781E_75A1 ∷ 0x7FF0_0000_0000_0000 ∷ 0xFFF8_0000_0000_0000 ∷ [])
    ≡ as_pattern 0x800E_FA58_781E_75A1
    ∷ as_pattern 0x7FF0_0000_0000_0000
    ∷ as_pattern 0xFFF8_0000_0000_0000
    ∷ []
unfolding unpack_one unpacked format_refusal precision_fits exponent_fits between has_code be width ones bias no_number negative
    exponent fraction pattern_of magnitude_of worth_in emin pat size
binary64_unpacked = refl

-- ---- the refusals in their order

-- by p, emax and a pattern or a code: each comes before those that follow, and nothing is refused where none applies
abbrev packing : ℕ → ℕ → ℕ → ℕ
packing p emax x = (pack_one (format p emax true) x).number

abbrev unpacking : ℕ → ℕ → ℕ → ℕ
unpacking p emax c = (unpack_one (format p emax true) c).number

packing_refusals :
    packing 0 0 2
    ∷ packing 1 14 2
    ∷ packing 54 1024 2
    ∷ packing 11 0 2
    ∷ packing 11 2000 2
    ∷ packing 11 1024 2
    ∷ packing 11 14 2
    ∷ packing 53 1022 2
    ∷ packing 11 15 2
    ∷ packing 53 1023 2
    ∷ []
    ≡ 1 ∷ 1 ∷ 1 ∷ 2 ∷ 2 ∷ 2 ∷ 7 ∷ 7 ∷ 8 ∷ 0 ∷ []
unfolding pack_one packed format_refusal precision_fits exponent_fits between has_code be width ones in_format has_by held lo step
    step_exp zeta_exp emin etop T code_of fields_by fields_of infinity_fields nan_fields kind_of sign mag val worth size
packing_refusals = refl

unpacking_refusals :
    unpacking 0 0 0x0001_0000
    ∷ unpacking 1 14 0x0001_0000
    ∷ unpacking 54 1024 0x0001_0000
    ∷ unpacking 11 0 0x0001_0000
    ∷ unpacking 11 2000 0x0001_0000
    ∷ unpacking 11 14 0x0001_0000
    ∷ unpacking 53 1022 0x0001_0000
    ∷ unpacking 11 15 0x0001_0000
    ∷ unpacking 53 1023 0x0001_0000
    ∷ []
    ≡ 1 ∷ 1 ∷ 1 ∷ 2 ∷ 2 ∷ 7 ∷ 7 ∷ 9 ∷ 0 ∷ []
unfolding unpack_one unpacked format_refusal precision_fits exponent_fits between has_code be width ones bias no_number negative
    exponent fraction pattern_of magnitude_of worth_in emin pat size
unpacking_refusals = refl
