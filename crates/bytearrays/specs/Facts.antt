-- What holds of every call on bytes (document 01, "What the product covers"), as whole statements. Assumes nothing.
use Rattle.std.specs.Prelude.{true, false, List, ◌≡◌, ℕ, ◌*◌, ◌/◌, length, take}
use Rattle.grid.specs.declared.Format.{Format}
use Rattle.rounding.specs.Calls.{refusal}
use Rattle.layouts.specs.Calls.{format_refusal}
use Rattle.reports.specs.Reports.{report}
use Rattle.codearrays.specs.Codes.{pack_reported, pack_afterwards, unpack_reported, unpack_afterwards}
use Rattle.arrays.specs.Rounding.{reported, afterwards}
use Rattle.words.specs.Bytes.{bytes_of, words_of, ragged, one_ragged}
use Rattle.words.specs.Facts.{AllBelow}
use Rattle.bytearrays.specs.Calls.{or_five, round_bytes_reported, round_bytes_afterwards, pack_bytes_reported, pack_bytes_afterwards, unpack_bytes_reported, unpack_bytes_afterwards}

-- ---- a call on bytes is the call on words: it reports the same, and leaves the bytes of the words that the other leaves, where
-- neither the input nor the output is ragged

abbrev pub RoundsAsWords : Type 0
RoundsAsWords = (f : Format) (mode r : ℕ) (words xs out : List ℕ)
    → ragged (length xs) ≡ false → ragged (length out) ≡ false → AllBelow 256 out
    → (round_bytes_reported f mode r words xs out ≡ reported f mode r (words_of words) (words_of xs) (words_of out))
    × (round_bytes_afterwards f mode r words xs out ≡ bytes_of (afterwards f mode r (words_of words) (words_of xs) (words_of out)))

abbrev pub PacksAsWords : Type 0
PacksAsWords = (f : Format) (xs out : List ℕ)
    → ragged (length xs) ≡ false → ragged (length out) ≡ false → AllBelow 256 out
    → (pack_bytes_reported f xs out ≡ pack_reported f (words_of xs) (words_of out))
    × (pack_bytes_afterwards f xs out ≡ bytes_of (pack_afterwards f (words_of xs) (words_of out)))

abbrev pub UnpacksAsWords : Type 0
UnpacksAsWords = (f : Format) (codes out : List ℕ)
    → ragged (length codes) ≡ false → ragged (length out) ≡ false → AllBelow 256 out
    → (unpack_bytes_reported f codes out ≡ unpack_reported f (words_of codes) (words_of out))
    × (unpack_bytes_afterwards f codes out ≡ bytes_of (unpack_afterwards f (words_of codes) (words_of out)))

-- ---- where one of them is ragged, the call is refused, as 5 if nothing is refused before the lengths, and has written nothing

abbrev pub RaggedNotRounded : Type 0
RaggedNotRounded = (f : Format) (mode r : ℕ) (words xs out : List ℕ) → one_ragged (length xs) (length out) ≡ true
    → (round_bytes_reported f mode r words xs out ≡ report (or_five (refusal f mode r)))
    × (round_bytes_afterwards f mode r words xs out ≡ out)

abbrev pub RaggedNotPacked : Type 0
RaggedNotPacked = (f : Format) (xs out : List ℕ) → one_ragged (length xs) (length out) ≡ true
    → (pack_bytes_reported f xs out ≡ report (or_five (format_refusal f)))
    × (pack_bytes_afterwards f xs out ≡ out)

abbrev pub RaggedNotUnpacked : Type 0
RaggedNotUnpacked = (f : Format) (codes out : List ℕ) → one_ragged (length codes) (length out) ≡ true
    → (unpack_bytes_reported f codes out ≡ report (or_five (format_refusal f)))
    × (unpack_bytes_afterwards f codes out ≡ out)

-- ---- the words of a rounding call may be ragged

-- bytes without those that are left behind their whole words
abbrev pub whole_words : List ℕ → List ℕ
whole_words bs = take (8 * (length bs / 8)) bs

-- those count for nothing: cutting them off changes neither what is reported nor what is left
abbrev pub SpareBytesUnread : Type 0
SpareBytesUnread = (f : Format) (mode r : ℕ) (words xs out : List ℕ)
    → (round_bytes_reported f mode r (whole_words words) xs out ≡ round_bytes_reported f mode r words xs out)
    × (round_bytes_afterwards f mode r (whole_words words) xs out ≡ round_bytes_afterwards f mode r words xs out)
