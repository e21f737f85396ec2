-- Closed cases that hold the definitions of the total to worked examples in binary16: antt computes both sides. The number 2^e is
-- 2^(1074 + e) units, so that the step above 1 is 2^1064 of them, and the smallest subnormal number 2^1050. Assumes nothing.
use mathlib.Core.Bool.{true}
use mathlib.Core.List.{List, [], ◌∷◌, map}
use mathlib.Core.Path.{◌≡◌, refl}
use Prim.Native.Nat.{ℕ, ◌+◌, ◌*◌, ◌^◌}
use lib.IntN.{ℤ, pos, neg_ℤ}
use lib.Ieee.{size}
use Rattle.laws.specs.Lists.{below, times}
use Rattle.grid.specs.declared.Format.{Format}
use Rattle.patterns.specs.Patterns.{sign, mag, with_sign, kind_of, worth, val, pat}
use Rattle.grid.specs.Formats.{emin, etop, zeta_exp, step_exp, step, T}
use Rattle.grid.specs.Neighbours.{lo, hi}
use Rattle.grid.proofs.Cases.{format}
use Rattle.magnitudes.specs.Modes.{K, u, takes_hi}
use Rattle.magnitudes.specs.Destinations.{taken, written, goes_to}
use Rattle.rounding.specs.Rounded.{answer_to, rounded}
use Rattle.meaning.specs.Totals.{magnitude_in, signed, number_in, total, answers, rest, chopped}

abbrev binary16 : Format
binary16 = format 11 15 true

-- K, by the input's pattern
abbrev shares : ℕ → ℕ → ℕ
shares r x = K r (rest binary16 (magnitude_in x)) (step binary16 (magnitude_in x))

-- the answers to the words below 2^r, in order
abbrev in_order : ℕ → ℕ → List ℕ
in_order r x = answers binary16 r x (below (2 ^ r))

-- their total, and what it has to be
abbrev totals : ℕ → ℕ → List ℤ
totals r x = total (in_order r x) ∷ signed (sign x) (chopped binary16 r (magnitude_in x)) ∷ []

-- ---- 1 and three quarters of a step, with two random bits and with one; the first of them with the other sign; one and a half
-- times the smallest subnormal number; and xmax and a negative zero, which stay

shares_worked :
    shares 2 0x3FF0_0300_0000_0000
    ∷ shares 1 0x3FF0_0300_0000_0000
    ∷ shares 2 0xBFF0_0300_0000_0000
    ∷ shares 1 0x3E78_0000_0000_0000
    ∷ shares 1 0x40EF_FC00_0000_0000
    ∷ shares 1 0x8000_0000_0000_0000
    ∷ []
    ≡ 3 ∷ 1 ∷ 3 ∷ 1 ∷ 0 ∷ 0 ∷ []
unfolding K lo step step_exp zeta_exp emin mag val worth size
shares_worked = refl

answers_worked :
    in_order 2 0x3FF0_0300_0000_0000
    ∷ in_order 1 0x3FF0_0300_0000_0000
    ∷ in_order 2 0xBFF0_0300_0000_0000
    ∷ in_order 1 0x3E78_0000_0000_0000
    ∷ in_order 1 0x40EF_FC00_0000_0000
    ∷ in_order 1 0x8000_0000_0000_0000
    ∷ []
    ≡ (0x3FF0_0000_0000_0000 ∷ 0x3FF0_0400_0000_0000 ∷ 0x3FF0_0400_0000_0000 ∷ 0x3FF0_0400_0000_0000 ∷ [])
    ∷ (0x3FF0_0000_0000_0000 ∷ 0x3FF0_0400_0000_0000 ∷ [])
    ∷ (0xBFF0_0000_0000_0000 ∷ 0xBFF0_0400_0000_0000 ∷ 0xBFF0_0400_0000_0000 ∷ 0xBFF0_0400_0000_0000 ∷ [])
    ∷ (0x3E70_0000_0000_0000 ∷ 0x3E80_0000_0000_0000 ∷ [])
    ∷ (0x40EF_FC00_0000_0000 ∷ 0x40EF_FC00_0000_0000 ∷ [])
    ∷ (0x8000_0000_0000_0000 ∷ 0x8000_0000_0000_0000 ∷ [])
    ∷ []
unfolding answers rounded answer_to goes_to taken written takes_hi K u lo hi step step_exp zeta_exp emin etop T
    kind_of sign mag with_sign val worth pat size
answers_worked = refl

totals_worked :
    totals 2 0x3FF0_0300_0000_0000
    ∷ totals 1 0x3FF0_0300_0000_0000
    ∷ totals 2 0xBFF0_0300_0000_0000
    ∷ totals 1 0x3E78_0000_0000_0000
    ∷ totals 1 0x40EF_FC00_0000_0000
    ∷ totals 1 0x8000_0000_0000_0000
    ∷ []
    ≡ (pos (4 * 2 ^ 1074 + 3 * 2 ^ 1064) ∷ pos (4 * 2 ^ 1074 + 3 * 2 ^ 1064) ∷ [])
    ∷ (pos (2 * 2 ^ 1074 + 2 ^ 1064) ∷ pos (2 * 2 ^ 1074 + 2 ^ 1064) ∷ [])
    ∷ (neg_ℤ (pos (4 * 2 ^ 1074 + 3 * 2 ^ 1064)) ∷ neg_ℤ (pos (4 * 2 ^ 1074 + 3 * 2 ^ 1064)) ∷ [])
    ∷ (pos (3 * 2 ^ 1050) ∷ pos (3 * 2 ^ 1050) ∷ [])
    ∷ (pos (2 * 65504 * 2 ^ 1074) ∷ pos (2 * 65504 * 2 ^ 1074) ∷ [])
    ∷ (pos 0 ∷ pos 0 ∷ [])
    ∷ []
unfolding total number_in signed chopped answers rounded answer_to goes_to taken written takes_hi K u lo hi step step_exp zeta_exp
    emin etop T kind_of sign mag with_sign val worth pat size
totals_worked = refl

-- ---- another order: the last two bits of these words are 3, 0, 1 and 2

abbrev other_words : List ℕ
other_words = 7 ∷ 4 ∷ 9 ∷ 2 ∷ []

other_words_once : map (λ (n : ℕ). times n (map (u 2) other_words)) (below 4) ≡ 1 ∷ 1 ∷ 1 ∷ 1 ∷ []
unfolding times u
other_words_once = refl

other_words_answers : answers binary16 2 0x3FF0_0300_0000_0000 other_words
    ≡ 0x3FF0_0400_0000_0000 ∷ 0x3FF0_0000_0000_0000 ∷ 0x3FF0_0400_0000_0000 ∷ 0x3FF0_0400_0000_0000 ∷ []
unfolding answers rounded answer_to goes_to taken written takes_hi K u lo hi step step_exp zeta_exp emin etop T
    kind_of sign mag with_sign val worth pat size
other_words_answers = refl
