-- Closed cases that hold the definitions to outside facts: antt computes both sides. The values and kinds of single patterns
-- are IEEE 754-2019's. A definition changed to give another answer at one of these fails here, whatever else is still
-- provable. Assumes nothing.
use mathlib.Core.Bool.{true, false}
use mathlib.Core.List.{[], ◌∷◌, map}
use mathlib.Core.Path.{◌≡◌, refl}
use Prim.Native.Nat.{◌+◌, ◌-◌, ◌*◌, ◌^◌}
use lib.Ieee.{size}
use Rattle.patterns.specs.declared.Kind.TheVariants.{Zero, Finite, Infinity, NaN}
use Rattle.patterns.specs.Patterns.{sign, mag, kind_of, worth, val, digits_of}

-- the smallest number, the largest subnormal, the smallest normal, one, the largest
values : map val (0x0000_0000_0000_0001 ∷ 0x000F_FFFF_FFFF_FFFF ∷ 0x0010_0000_0000_0000 ∷ 0x3FF0_0000_0000_0000 ∷ 0x7FEF_FFFF_FFFF_FFFF ∷ [])
    ≡ 1 ∷ (2 ^ 52 - 1) ∷ 2 ^ 52 ∷ 2 ^ 1074 ∷ (2 ^ 53 - 1) * 2 ^ (1074 + 971) ∷ []
unfolding val worth
values = refl

digit_counts : map digits_of (0x0000_0000_0000_0000 ∷ 0x0000_0000_0000_0001 ∷ 0x000F_FFFF_FFFF_FFFF ∷ 0x0010_0000_0000_0000 ∷ 0x7FEF_FFFF_FFFF_FFFF ∷ [])
    ≡ 0 ∷ 1 ∷ 52 ∷ 53 ∷ (1074 + 1024) ∷ []
unfolding digits_of val worth size
digit_counts = refl

-- zeros, infinities and NaNs of either sign, and what lies beside them
kinds : map kind_of
    (0x0000_0000_0000_0000
    ∷ 0x8000_0000_0000_0000
    ∷ 0x0000_0000_0000_0001
    ∷ 0x7FEF_FFFF_FFFF_FFFF
    ∷ 0x7FF0_0000_0000_0000
    ∷ 0xFFF0_0000_0000_0000
    ∷ 0x7FF0_0000_0000_0001
    ∷ 0xFFFF_FFFF_FFFF_FFFF
    ∷ [])
    ≡ Zero ∷ Zero ∷ Finite ∷ Finite ∷ Infinity ∷ Infinity ∷ NaN ∷ NaN ∷ []
unfolding kind_of mag
kinds = refl

signs : map sign (0x0000_0000_0000_0000 ∷ 0x7FFF_FFFF_FFFF_FFFF ∷ 0x8000_0000_0000_0000 ∷ 0xBFF0_0000_0000_0000 ∷ []) ≡ false ∷ false ∷ true ∷ true ∷ []
unfolding sign
signs = refl
