-- Closed cases that hold the definitions to outside facts: antt computes both sides. The formats' landmarks are their
-- published ones, and the neighbours are document 01's examples. A definition changed to give another answer at one of these
-- fails here, whatever else is still provable. Assumes nothing.
use mathlib.Core.Bool.{Bool, true, false}
use mathlib.Core.List.{List, [], ◌∷◌, map}
use mathlib.Core.Path.{◌≡◌, refl}
use Prim.Native.Nat.{ℕ, ◌+◌, ◌-◌, ◌*◌, ◌^◌}
use lib.Ieee.{size}
use Rattle.patterns.specs.Patterns.{worth, val, pat}
use Rattle.grid.specs.declared.Format.{Format}
use Rattle.grid.specs.Formats.{between, precision_fits, exponent_fits, emin, etop, zeta_exp, step_exp, step, smallest_normal, zeta, xmax, T}
use Rattle.grid.specs.Neighbours.{lo, hi}

-- ---- the ranges, at and beside their ends

precisions : map precision_fits (0 ∷ 1 ∷ 2 ∷ 53 ∷ 54 ∷ 1023 ∷ 1024 ∷ (2 ^ 64 - 1) ∷ []) ≡ false ∷ false ∷ true ∷ true ∷ false ∷ false ∷ false ∷ false ∷ []
unfolding precision_fits between
precisions = refl

exponents : map exponent_fits (0 ∷ 1 ∷ 2 ∷ 53 ∷ 54 ∷ 1023 ∷ 1024 ∷ (2 ^ 64 - 1) ∷ []) ≡ false ∷ true ∷ true ∷ true ∷ true ∷ true ∷ false ∷ false ∷ []
unfolding exponent_fits between
exponents = refl

-- ---- the six known formats

abbrev pub format : ℕ → ℕ → Bool → Format
format p emax sub = record { p = p; emax = emax; sub = sub }

-- binary16, bfloat16, TensorFloat-32, binary32, binary64, E5M2
abbrev pub formats : List Format
formats = format 11 15 true ∷ format 8 127 true ∷ format 11 127 true ∷ format 24 127 true ∷ format 53 1023 true ∷ format 3 15 true ∷ []

-- zeta, the smallest normal number, xmax and T of a format
abbrev landmarks : Format → List ℕ
landmarks f = zeta f ∷ smallest_normal f ∷ xmax f ∷ T f ∷ []

-- as numbers, where 2^e is 2^(1074 + e) units
landmark_values : map landmarks formats
    ≡ (2 ^ (1074 - 24) ∷ 2 ^ (1074 - 14) ∷ 65504 * 2 ^ 1074 ∷ 65536 * 2 ^ 1074 ∷ [])
    ∷ (2 ^ (1074 - 133) ∷ 2 ^ (1074 - 126) ∷ 255 * 2 ^ (1074 + 120) ∷ 2 ^ (1074 + 128) ∷ [])
    ∷ (2 ^ (1074 - 136) ∷ 2 ^ (1074 - 126) ∷ 2047 * 2 ^ (1074 + 117) ∷ 2 ^ (1074 + 128) ∷ [])
    ∷ (2 ^ (1074 - 149) ∷ 2 ^ (1074 - 126) ∷ (2 ^ 24 - 1) * 2 ^ (1074 + 104) ∷ 2 ^ (1074 + 128) ∷ [])
    ∷ (1 ∷ 2 ^ (1074 - 1022) ∷ (2 ^ 53 - 1) * 2 ^ (1074 + 971) ∷ 2 ^ (1074 + 1024) ∷ [])
    ∷ (2 ^ (1074 - 16) ∷ 2 ^ (1074 - 14) ∷ 57344 * 2 ^ 1074 ∷ 65536 * 2 ^ 1074 ∷ [])
    ∷ []
unfolding zeta smallest_normal xmax T zeta_exp emin etop
landmark_values = refl

-- and as the binary64 patterns that hold them; binary64's own T has the pattern of infinity
landmark_patterns : map (λ (f : Format). map pat (landmarks f)) formats
    ≡ (0x3E70_0000_0000_0000 ∷ 0x3F10_0000_0000_0000 ∷ 0x40EF_FC00_0000_0000 ∷ 0x40F0_0000_0000_0000 ∷ [])
    ∷ (0x37A0_0000_0000_0000 ∷ 0x3810_0000_0000_0000 ∷ 0x47EF_E000_0000_0000 ∷ 0x47F0_0000_0000_0000 ∷ [])
    ∷ (0x3770_0000_0000_0000 ∷ 0x3810_0000_0000_0000 ∷ 0x47EF_FC00_0000_0000 ∷ 0x47F0_0000_0000_0000 ∷ [])
    ∷ (0x36A0_0000_0000_0000 ∷ 0x3810_0000_0000_0000 ∷ 0x47EF_FFFF_E000_0000 ∷ 0x47F0_0000_0000_0000 ∷ [])
    ∷ (0x0000_0000_0000_0001 ∷ 0x0010_0000_0000_0000 ∷ 0x7FEF_FFFF_FFFF_FFFF ∷ 0x7FF0_0000_0000_0000 ∷ [])
    ∷ (0x3EF0_0000_0000_0000 ∷ 0x3F10_0000_0000_0000 ∷ 0x40EC_0000_0000_0000 ∷ 0x40F0_0000_0000_0000 ∷ [])
    ∷ []
unfolding pat zeta smallest_normal xmax T zeta_exp emin etop size
landmark_patterns = refl

-- ---- the neighbours of document 01's examples, as patterns: in binary16, between its numbers, below T, below zeta and
-- among its subnormals

abbrev neighbours : Format → ℕ → List ℕ
neighbours f m = pat (lo f (val m)) ∷ pat (hi f (val m)) ∷ []

binary16_neighbours : map (neighbours (format 11 15 true))
    (0x3FF0_0200_0000_0000 ∷ 0x3FF0_0600_0000_0000 ∷ 0x3FF0_0300_0000_0000 ∷ 0x40EF_FE00_0000_0000 ∷ 0x3E60_0000_0000_0000 ∷ 0x3E60_0000_0000_0001 ∷ 0x3E78_0000_0000_0000 ∷ [])
    ≡ (0x3FF0_0000_0000_0000 ∷ 0x3FF0_0400_0000_0000 ∷ [])
    ∷ (0x3FF0_0400_0000_0000 ∷ 0x3FF0_0800_0000_0000 ∷ [])
    ∷ (0x3FF0_0000_0000_0000 ∷ 0x3FF0_0400_0000_0000 ∷ [])
    ∷ (0x40EF_FC00_0000_0000 ∷ 0x40F0_0000_0000_0000 ∷ [])
    ∷ (0 ∷ 0x3E70_0000_0000_0000 ∷ [])
    ∷ (0 ∷ 0x3E70_0000_0000_0000 ∷ [])
    ∷ (0x3E70_0000_0000_0000 ∷ 0x3E80_0000_0000_0000 ∷ [])
    ∷ []
unfolding lo hi step step_exp zeta_exp emin val worth pat size
binary16_neighbours = refl

-- without subnormals nothing lies between 0 and the smallest normal number
binary16_without_subnormals_lem : neighbours (format 11 15 false) 0x3F00_0000_0000_0000 ≡ 0 ∷ 0x3F10_0000_0000_0000 ∷ []
unfolding lo hi step step_exp zeta_exp emin val worth pat size
binary16_without_subnormals_lem = refl
