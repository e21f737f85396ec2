-- A whole array packed or unpacked: what is refused, at which place, what is reported, and what the output holds afterwards
-- (document 01, "Arrays", "Codes" and "Refusal numbers"). Assumes nothing.
use Rattle.std.specs.Prelude.{cond, not, List, map, ℕ, eqb, length}
use Rattle.grid.specs.declared.Format.{Format}
use Rattle.layouts.specs.Calls.{format_refusal}
use Rattle.codes.specs.Calls.{packed, unpacked}
use Rattle.reports.specs.declared.Report.{Report}
use Rattle.reports.specs.Reports.{report, first_refused}

-- ---- before any entry is looked at

-- A refusal's number, and after it the lengths: where that number is 0, 5 where the output is not as long as the input.
unfoldable pub then_lengths : ℕ → ℕ → ℕ → ℕ
then_lengths number inputs outputs = cond (not (eqb number 0)) number (cond (not (eqb outputs inputs)) 5 0)

-- the first refusal that the format and the lengths give, and 0 where they give none: 1, 2 or 7 for the format come first
abbrev pub codes_refusal : Format → List ℕ → List ℕ → ℕ
codes_refusal f xs out = then_lengths (format_refusal f) (length xs) (length out)

-- ---- a call, by the rule that refuses entries and the rule by which an entry is written

-- what is reported: what the format and the lengths refuse, with place 0, and after that the first entry that is refused
unfoldable pub codes_reported : (ℕ → ℕ) → Format → List ℕ → List ℕ → Report
codes_reported refuses f xs out =
    cond (eqb (codes_refusal f xs out) 0) (first_refused refuses 0 xs) (report (codes_refusal f xs out))

-- the output afterwards: what is written for each entry, or, where the call is refused, what it held before
unfoldable pub codes_afterwards : (ℕ → ℕ) → (ℕ → ℕ) → Format → List ℕ → List ℕ → List ℕ
codes_afterwards refuses writes f xs out = cond (eqb (codes_reported refuses f xs out).number 0) (map writes xs) out

-- ---- packing

-- a pattern's refusal, 8 or 0, and its code
abbrev pub pack_number : Format → ℕ → ℕ
pack_number f x = (packed f x).number

abbrev pub pack_code : Format → ℕ → ℕ
pack_code f x = (packed f x).code

-- what is reported where an array is packed, and what the output holds afterwards
abbrev pub pack_reported : Format → List ℕ → List ℕ → Report
pack_reported f xs out = codes_reported (pack_number f) f xs out

abbrev pub pack_afterwards : Format → List ℕ → List ℕ → List ℕ
pack_afterwards f xs out = codes_afterwards (pack_number f) (pack_code f) f xs out

-- ---- unpacking

-- a code's refusal, 9 before 10, or 0, and its pattern
abbrev pub unpack_number : Format → ℕ → ℕ
unpack_number f c = (unpacked f c).number

abbrev pub unpack_pattern : Format → ℕ → ℕ
unpack_pattern f c = (unpacked f c).pattern

-- what is reported where an array is unpacked, and what the output holds afterwards
abbrev pub unpack_reported : Format → List ℕ → List ℕ → Report
unpack_reported f codes out = codes_reported (unpack_number f) f codes out

abbrev pub unpack_afterwards : Format → List ℕ → List ℕ → List ℕ
unpack_afterwards f codes out = codes_afterwards (unpack_number f) (unpack_pattern f) f codes out
