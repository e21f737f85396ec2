-- A whole array, lent as bytes, rounded, packed or unpacked: what is reported, and what the output holds afterwards (document 01,
-- "What the product covers", "Arrays" and "Refusal numbers"). Assumes nothing.
use Rattle.std.specs.Prelude.{cond, List, ℕ, eqb, length}
use Rattle.grid.specs.declared.Format.{Format}
use Rattle.rounding.specs.Calls.{refusal}
use Rattle.layouts.specs.Calls.{format_refusal}
use Rattle.reports.specs.declared.Report.{Report}
use Rattle.reports.specs.Reports.{report}
use Rattle.codearrays.specs.Codes.{pack_reported, pack_afterwards, unpack_reported, unpack_afterwards}
use Rattle.arrays.specs.Rounding.{reported, afterwards}
use Rattle.words.specs.Bytes.{bytes_of, words_of, one_ragged}

-- ---- a call on bytes, by the same call on the whole words among them

-- what is refused before the lengths are looked at, and 5 where nothing is
abbrev pub or_five : ℕ → ℕ
or_five before = cond (eqb before 0) 5 before

-- what is refused of two lengths of which one is ragged, and 0 where neither is
abbrev pub ragged_refusal : ℕ → ℕ → ℕ → ℕ
ragged_refusal before inputs outputs = cond (one_ragged inputs outputs) (or_five before) 0

-- What is reported. An input or an output of a ragged length is refused as 5, in 5's place: what is refused before still comes
-- first. Otherwise it is what the call on words reports.
unfoldable pub bytes_reported : ℕ → Report → List ℕ → List ℕ → Report
bytes_reported before on_words xs out =
    cond (one_ragged (length xs) (length out)) (report (or_five before)) on_words

-- the output afterwards: the bytes of what the call on words leaves, or, where the call is refused, what it held before
unfoldable pub bytes_afterwards : Report → List ℕ → List ℕ → List ℕ
bytes_afterwards answer leaves out = cond (eqb answer.number 0) (bytes_of leaves) out

-- ---- rounding

-- what is reported: p, emax, the mode and r are looked at before the lengths
unfoldable pub round_bytes_reported : Format → ℕ → ℕ → List ℕ → List ℕ → List ℕ → Report
round_bytes_reported f mode r words xs out =
    bytes_reported (refusal f mode r) (reported f mode r (words_of words) (words_of xs) (words_of out)) xs out

-- what the output holds afterwards
unfoldable pub round_bytes_afterwards : Format → ℕ → ℕ → List ℕ → List ℕ → List ℕ → List ℕ
round_bytes_afterwards f mode r words xs out =
    bytes_afterwards (round_bytes_reported f mode r words xs out) (afterwards f mode r (words_of words) (words_of xs) (words_of out)) out

-- ---- packing

-- what is reported: the format is looked at before the lengths
unfoldable pub pack_bytes_reported : Format → List ℕ → List ℕ → Report
pack_bytes_reported f xs out = bytes_reported (format_refusal f) (pack_reported f (words_of xs) (words_of out)) xs out

-- what the output holds afterwards
unfoldable pub pack_bytes_afterwards : Format → List ℕ → List ℕ → List ℕ
pack_bytes_afterwards f xs out = bytes_afterwards (pack_bytes_reported f xs out) (pack_afterwards f (words_of xs) (words_of out)) out

-- ---- unpacking

-- what is reported: the format is looked at before the lengths
unfoldable pub unpack_bytes_reported : Format → List ℕ → List ℕ → Report
unpack_bytes_reported f codes out = bytes_reported (format_refusal f) (unpack_reported f (words_of codes) (words_of out)) codes out

-- what the output holds afterwards
unfoldable pub unpack_bytes_afterwards : Format → List ℕ → List ℕ → List ℕ
unpack_bytes_afterwards f codes out =
    bytes_afterwards (unpack_bytes_reported f codes out) (unpack_afterwards f (words_of codes) (words_of out)) out
