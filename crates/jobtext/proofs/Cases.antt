-- Closed cases: document 01's job and its answer, and refusals in their order, computed. Assumes nothing.
use mathlib.Core.List.{[], ◌∷◌}
use mathlib.Core.Path.{◌≡◌, refl}
use Prim.Native.Nat.{ℕ}
use lib.Ieee.{size}
use lib.ListN.{take}
use Rattle.patterns.specs.Patterns.{sign, mag, with_sign, kind_of, worth as value_worth, val, pat}
use Rattle.grid.specs.Formats.{between, precision_fits, exponent_fits, emin, etop, zeta_exp, step_exp, step, T}
use Rattle.grid.specs.Neighbours.{lo, hi}
use Rattle.magnitudes.specs.Modes.{mode_of, uses_word, K, u, takes_hi}
use Rattle.magnitudes.specs.Destinations.{taken, written, goes_to}
use Rattle.rounding.specs.Rounded.{answer_to as pattern_for, rounded}
use Rattle.rounding.specs.Calls.{bits_fit, refusal}
use Rattle.arrays.specs.Rounding.{lengths_refusal, array_refusal, reported, rounded_at, afterwards}
use Rattle.lines.specs.Numerals.{digit, digits, decimals}
use Rattle.lines.specs.Lines.{fits, line}
use Rattle.lines.specs.Reading.{worth, run, value, begins, digits_read, value_read, read_value, behind, read_line}
use Rattle.jobs.specs.Layout.{Job, has_words, rule_at}
use Rattle.jobs.specs.Reading.{read_from, place_lines, heads_in, lines_in, places_in, values_in, used_in, reading, job_of}
use Rattle.jobs.proofs.Cases.{document_text}
use Rattle.jobtext.specs.Answers.{pattern_lines, accepted, refused, printed}
use Rattle.jobtext.specs.Runs.{answer_of, answer_by, answer_to}

-- the answer to document 01's text, a line a row
answered :
    answer_to document_text
    ≡
    115 ∷ 116 ∷ 97 ∷ 116 ∷ 117 ∷ 115 ∷ 61 ∷ 48 ∷ 10  -- status=0
    ∷ 110 ∷ 61 ∷ 50 ∷ 10  -- n=2
    ∷ 121 ∷ 61 ∷ 52 ∷ 48 ∷ 48 ∷ 56 ∷ 48 ∷ 48 ∷ 48 ∷ 48 ∷ 48 ∷ 48 ∷ 48 ∷ 48 ∷ 48 ∷ 48 ∷ 48 ∷ 48 ∷ 10  -- y=4008000000000000
    ∷ 121 ∷ 61 ∷ 52 ∷ 48 ∷ 48 ∷ 65 ∷ 48 ∷ 48 ∷ 48 ∷ 48 ∷ 48 ∷ 48 ∷ 48 ∷ 48 ∷ 48 ∷ 48 ∷ 48 ∷ 48 ∷ 10  -- y=400A000000000000
    ∷ []
unfolding answer_to answer_by answer_of printed accepted pattern_lines line digits digit decimals
    reading values_in used_in heads_in places_in lines_in place_lines read_from has_words rule_at read_line behind begins read_value value_read digits_read value run worth fits job_of
    reported afterwards rounded_at array_refusal lengths_refusal uses_word refusal bits_fit precision_fits exponent_fits between mode_of
    rounded pattern_for goes_to taken written takes_hi K u lo hi step step_exp zeta_exp emin etop T kind_of sign mag with_sign val value_worth pat size
answered = refl

-- a job without inputs, by p, emax, the mode and r
abbrev numbers : ℕ → ℕ → ℕ → ℕ → Job
numbers p emax mode r = record { p = p; emax = emax; sub = 1; mode = mode; r = r; xs = []; ws = [] }

-- its refusals come in document 01's order, all at place 0; and a text that is cut short is refused before any of them
refused_in_order :
    answer_of (numbers 1 0 9 0)
    ∷ answer_of (numbers 54 0 9 0)
    ∷ answer_of (numbers 11 0 9 0)
    ∷ answer_of (numbers 11 1024 9 0)
    ∷ answer_of (numbers 11 15 9 0)
    ∷ answer_of (numbers 11 15 7 0)
    ∷ answer_of (numbers 11 15 7 54)
    ∷ answer_to (take 3 document_text)
    ∷ []
    ≡ refused 1 0 ∷ refused 1 0 ∷ refused 2 0 ∷ refused 2 0 ∷ refused 3 0 ∷ refused 4 0 ∷ refused 4 0 ∷ refused 12 1 ∷ []
unfolding answer_to answer_by answer_of printed
    reading values_in used_in heads_in places_in lines_in place_lines read_from has_words rule_at read_line behind begins read_value value_read digits_read value run worth fits decimals
    reported array_refusal lengths_refusal uses_word refusal bits_fit precision_fits exponent_fits between mode_of
refused_in_order = refl
