-- Closed cases that hold the definitions of an array call to document 01: its job, and each refusal in its order. antt computes
-- both sides. Assumes nothing.
use mathlib.Core.Bool.{true}
use mathlib.Core.List.{[], ◌∷◌}
use mathlib.Core.Path.{◌≡◌, refl}
use Prim.Native.Nat.{ℕ}
use lib.Ieee.{size}
use Rattle.patterns.specs.Patterns.{sign, mag, with_sign, kind_of, worth, val, pat}
use Rattle.grid.specs.Formats.{between, precision_fits, exponent_fits, emin, etop, zeta_exp, step_exp, step, T}
use Rattle.grid.specs.Neighbours.{lo, hi}
use Rattle.grid.proofs.Cases.{format}
use Rattle.magnitudes.specs.Modes.{mode_of, uses_word, K, u, takes_hi}
use Rattle.magnitudes.specs.Destinations.{taken, written, goes_to}
use Rattle.rounding.specs.Rounded.{answer_to, rounded}
use Rattle.rounding.specs.Calls.{bits_fit, refusal}
use Rattle.reports.specs.Reports.{report}
use Rattle.arrays.specs.Rounding.{lengths_refusal, array_refusal, reported, rounded_at, afterwards}

-- document 01's job: one input twice, whose rest is 3/8 of the step from 3 to 3.25, so that K is 3, with the words 4 and 5: just
-- below 2^r - K, and at it
job : afterwards (format 4 15 true) 7 3 (4 ∷ 5 ∷ []) (0x4008_C000_0000_0000 ∷ 0x4008_C000_0000_0000 ∷ []) (0 ∷ 0 ∷ [])
    ≡ 0x4008_0000_0000_0000 ∷ 0x400A_0000_0000_0000 ∷ []
unfolding afterwards rounded_at array_refusal lengths_refusal uses_word refusal bits_fit precision_fits exponent_fits between mode_of
    rounded answer_to goes_to taken written takes_hi K u lo hi step step_exp zeta_exp emin etop T kind_of sign mag with_sign val worth pat size
job = refl

-- the refusal's number, by p, emax, the mode, r, and how many words, inputs and outputs there are
abbrev number : ℕ → ℕ → ℕ → ℕ → ℕ → ℕ → ℕ → ℕ
number p emax mode r words inputs outputs = array_refusal (format p emax true) mode r words inputs outputs

-- each refusal comes before those that follow, and nothing is refused where none applies
refusals :
    number 1 0 9 0 0 5 1
    ∷ number 54 0 9 0 0 5 1
    ∷ number 11 0 9 0 0 5 1
    ∷ number 11 1024 9 0 0 5 1
    ∷ number 11 15 9 0 0 5 1
    ∷ number 11 15 7 0 0 5 1
    ∷ number 11 15 7 54 0 5 1
    ∷ number 11 15 7 53 0 5 1
    ∷ number 11 15 7 53 4 5 5
    ∷ number 11 15 8 0 4 5 5
    ∷ number 11 15 8 0 5 5 5
    ∷ number 11 15 6 0 0 5 5
    ∷ number 11 15 7 1 9 5 5
    ∷ number 11 15 7 1 0 0 0
    ∷ []
    ≡ 1 ∷ 1 ∷ 2 ∷ 2 ∷ 3 ∷ 4 ∷ 4 ∷ 5 ∷ 6 ∷ 6 ∷ 0 ∷ 0 ∷ 0 ∷ 0 ∷ []
unfolding array_refusal lengths_refusal uses_word mode_of refusal bits_fit precision_fits exponent_fits between
refusals = refl

-- a call that is refused reports the number and place 0, and its output holds what it held
refused_call : reported (format 11 15 true) 7 2 (0 ∷ []) (0 ∷ 0 ∷ []) (1 ∷ 2 ∷ []) ≡ report 6
unfolding reported array_refusal lengths_refusal uses_word mode_of refusal bits_fit precision_fits exponent_fits between
refused_call = refl

refused_output_kept : afterwards (format 11 15 true) 7 2 (0 ∷ []) (0 ∷ 0 ∷ []) (1 ∷ 2 ∷ []) ≡ 1 ∷ 2 ∷ []
unfolding afterwards array_refusal lengths_refusal uses_word mode_of refusal bits_fit precision_fits exponent_fits between
refused_output_kept = refl
