-- What a call refuses, by number and in order, and what it answers (document 01, "Refusal numbers"). Assumes nothing.
use Rattle.std.specs.Prelude.{Bool, cond, not, ◌&&◌, ℕ, ltb, eqb}
use Rattle.grid.specs.declared.Format.{Format}
use Rattle.grid.specs.Formats.{between, precision_fits, exponent_fits}
use Rattle.magnitudes.specs.Modes.{mode_of}
use Rattle.rounding.specs.Rounded.{rounded}

-- r runs from 1 to 53
unfoldable pub bits_fit : ℕ → Bool
bits_fit r = between 1 r 53

-- the first refusal that applies, and 0 where none does; r is looked at in mode 7 only
unfoldable pub refusal : Format → ℕ → ℕ → ℕ
refusal f mode r =
    cond (not (precision_fits f.p)) 1
    (cond (not (exponent_fits f.emax)) 2
    (cond (ltb 8 mode) 3
    (cond (eqb mode 7 && not (bits_fit r)) 4 0)))

-- what of that the mode and r refuse
abbrev pub mode_refusal : ℕ → ℕ → ℕ
mode_refusal mode r = cond (ltb 8 mode) 3 (cond (eqb mode 7 && not (bits_fit r)) 4 0)

-- a number and a pattern, which are what a single call answers
pub record Answer : Type 0 where
  pub number : ℕ
  pub pattern : ℕ

-- the answer of a single call: number 0 and a pattern, or the refusal's number and pattern 0
abbrev pub answered : ℕ → Answer
answered y = record { number = 0; pattern = y }

abbrev pub refused : ℕ → Answer
refused number = record { number = number; pattern = 0 }

-- one pattern rounded, or refused
unfoldable pub round_one : Format → ℕ → ℕ → ℕ → ℕ → Answer
round_one f mode r word x = cond (eqb (refusal f mode r) 0) (answered (rounded f (mode_of mode r) word x)) (refused (refusal f mode r))
