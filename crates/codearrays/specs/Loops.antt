-- What the code decides before any word is looked at, and what its loops look for and write: by a layout, and by any conversion of
-- words that follows two rules. That this is what Codes.antt
-- says is what the proofs of the calls show. Assumes nothing.
use Rattle.std.specs.Prelude.{◌≡◌, cond, List, map, ℕ, eqb, length, get_or, Result}
use Rattle.std.specs.Result.{result_unwrap_or}
use Rattle.refusals.specs.declared.Refusal.{Refusal}
use Rattle.refusals.specs.Refusals.{refusal_number}
use Rattle.grid.specs.declared.Format.{Format}
use Rattle.layouts.specs.declared.Layout.{Layout}
use Rattle.layouts.specs.Calls.{format_refusal}
use Rattle.layouts.specs.Layouts.{Laid, layout, ready, refused}
use Rattle.bylayout.specs.ByLayout.{packed_by, unpacked_by}
use Rattle.reports.specs.declared.Report.{Report}
use Rattle.reports.specs.Reports.{report, first_refused}
use Rattle.codearrays.specs.Codes.{then_lengths}

-- ---- what is decided

-- the layout to pack or unpack by, or the number of the first refusal that applies, by the two lengths
unfoldable pub decided : Format → ℕ → ℕ → Laid
decided f inputs outputs =
    cond (eqb (then_lengths (format_refusal f) inputs outputs) 0) (ready (layout f)) (refused (then_lengths (format_refusal f) inputs outputs))

-- ---- by a layout

-- what a rule says of entry i
unfoldable pub of_entry : (ℕ → ℕ) → List ℕ → ℕ → ℕ
of_entry g xs i = g (get_or xs i 0)

-- no refusal, whatever the place
abbrev pub no_refusal : ℕ → ℕ
no_refusal i = 0

-- a pattern's refusal and its code, by a layout
abbrev pub pack_number_by : Layout → ℕ → ℕ
pack_number_by l x = (packed_by l x).number

abbrev pub pack_code_by : Layout → ℕ → ℕ
pack_code_by l x = (packed_by l x).code

-- a code's refusal and its pattern, by a layout
abbrev pub unpack_number_by : Layout → ℕ → ℕ
unpack_number_by l c = (unpacked_by l c).number

abbrev pub unpack_pattern_by : Layout → ℕ → ℕ
unpack_pattern_by l c = (unpacked_by l c).pattern

-- ---- by any conversion

-- A conversion is known by what it may answer to a word. It follows two rules where they tell the number by which it refuses a word,
-- and what it makes of the word: 0 of one that it refuses.
pub record Follows (answers : ℕ → Result ℕ Refusal → Type 0) (refuses writes : ℕ → ℕ) : Type 0 where
  pub refused : (x : ℕ) (r : Result ℕ Refusal) → answers x r → refusal_number r ≡ refuses x
  pub made : (x : ℕ) (r : Result ℕ Refusal) → answers x r → result_unwrap_or r 0 ≡ writes x

-- what is reported where the words of an array are converted: the lengths come first
unfoldable pub words_reported : (ℕ → ℕ) → List ℕ → List ℕ → Report
words_reported refuses xs out =
    cond (eqb (then_lengths 0 (length xs) (length out)) 0) (first_refused refuses 0 xs) (report (then_lengths 0 (length xs) (length out)))

-- and what the output holds afterwards
unfoldable pub words_afterwards : (ℕ → ℕ) → (ℕ → ℕ) → List ℕ → List ℕ → List ℕ
words_afterwards refuses writes xs out = cond (eqb (words_reported refuses xs out).number 0) (map writes xs) out
