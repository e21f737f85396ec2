-- Closed cases that hold the definitions of calls on bytes to document 01, and to rows worked out independently of them: antt computes
-- both sides. A definition changed to give another answer at one of these fails here, whatever else is still provable.
-- Assumes nothing.
use mathlib.Core.Bool.{true, false}
use mathlib.Core.List.{List, [], ◌∷◌}
use mathlib.Core.Path.{◌≡◌, refl}
use Prim.Native.Nat.{ℕ}
use lib.Ieee.{size}
use lib.ListN.{replicate}
use Rattle.laws.specs.Bytes.{byte_of}
use Rattle.laws.specs.Lists.{sum}
use Rattle.patterns.specs.Patterns.{sign, mag, with_sign, kind_of, worth, val, pat}
use Rattle.grid.specs.Formats.{between, precision_fits, exponent_fits, emin, etop, zeta_exp, step_exp, step, T}
use Rattle.grid.specs.Neighbours.{lo, hi, held}
use Rattle.grid.proofs.Cases.{format}
use Rattle.magnitudes.specs.Modes.{mode_of, uses_word, K, u, takes_hi}
use Rattle.magnitudes.specs.Destinations.{taken, written, goes_to}
use Rattle.rounding.specs.Rounded.{answer_to, rounded}
use Rattle.rounding.specs.Calls.{bits_fit, refusal}
use Rattle.layouts.specs.Fields.{be, has_code, width, negative, exponent, fraction, bias, ones}
use Rattle.layouts.specs.Calls.{format_refusal}
use Rattle.codes.specs.Unpacking.{worth_in, magnitude_of, pattern_of, no_number}
use Rattle.codes.specs.Packing.{fields_of, infinity_fields, nan_fields, fields_by, code_of, has_by, in_format}
use Rattle.codes.specs.Calls.{packed, unpacked}
use Rattle.reports.specs.declared.Report.{Report}
use Rattle.reports.specs.Reports.{first_refused}
use Rattle.codearrays.specs.Codes.{then_lengths, codes_reported, codes_afterwards}
use Rattle.arrays.specs.Rounding.{lengths_refusal, array_refusal, reported, rounded_at, afterwards}
use Rattle.words.specs.Bytes.{byte_by, bytes_of, word_at, words_of, ragged}
use Rattle.bytearrays.specs.Calls.{bytes_reported, bytes_afterwards, round_bytes_reported, round_bytes_afterwards, pack_bytes_reported, pack_bytes_afterwards, unpack_bytes_reported, unpack_bytes_afterwards}

-- ---- words among bytes

-- a word's low byte comes first
bytes : bytes_of (0x0123_4567_89AB_CDEF ∷ 0x8000_0000_0000_0001 ∷ [])
    ≡ 0xEF ∷ 0xCD ∷ 0xAB ∷ 0x89 ∷ 0x67 ∷ 0x45 ∷ 0x23 ∷ 0x01
    ∷ 0x01 ∷ 0x00 ∷ 0x00 ∷ 0x00 ∷ 0x00 ∷ 0x00 ∷ 0x00 ∷ 0x80
    ∷ []
unfolding bytes_of byte_by byte_of
bytes = refl

-- and three bytes that are left over make no word
words :
    words_of
    (0xEF ∷ 0xCD ∷ 0xAB ∷ 0x89 ∷ 0x67 ∷ 0x45 ∷ 0x23 ∷ 0x01
    ∷ 0x01 ∷ 0x00 ∷ 0x00 ∷ 0x00 ∷ 0x00 ∷ 0x00 ∷ 0x00 ∷ 0x80
    ∷ 0x01 ∷ 0x02 ∷ 0x03
    ∷ [])
    ≡ 0x0123_4567_89AB_CDEF ∷ 0x8000_0000_0000_0001 ∷ []
unfolding words_of word_at sum
words = refl

-- ---- whole calls: the number, the place, and what an output that held EE everywhere holds afterwards

-- an output that nothing was written to
abbrev untouched : ℕ → List ℕ
untouched n = replicate n 0xEE

abbrev row : Report → List ℕ → List ℕ
row answer out = answer.number ∷ answer.place ∷ out

-- rounding with subnormals, by p, emax, the mode, r, the words, the input and the output's length
abbrev rounding : ℕ → ℕ → ℕ → ℕ → List ℕ → List ℕ → ℕ → List ℕ
rounding p emax mode r ws xs outputs =
    let f = format p emax true in
    row (round_bytes_reported f mode r ws xs (untouched outputs)) (round_bytes_afterwards f mode r ws xs (untouched outputs))

-- document 01's 3FF0030000000000 with two random bits, twice: word 0 gives 1, word 1 the next number, and three bytes are left over
rounded_bytes :
    rounding 11 15 7 2
    (0x00 ∷ 0x00 ∷ 0x00 ∷ 0x00 ∷ 0x00 ∷ 0x00 ∷ 0x00 ∷ 0x00
    ∷ 0x01 ∷ 0x00 ∷ 0x00 ∷ 0x00 ∷ 0x00 ∷ 0x00 ∷ 0x00 ∷ 0x00
    ∷ 0x01 ∷ 0x02 ∷ 0x03
    ∷ [])
    (0x00 ∷ 0x00 ∷ 0x00 ∷ 0x00 ∷ 0x00 ∷ 0x03 ∷ 0xF0 ∷ 0x3F
    ∷ 0x00 ∷ 0x00 ∷ 0x00 ∷ 0x00 ∷ 0x00 ∷ 0x03 ∷ 0xF0 ∷ 0x3F
    ∷ [])
    16
    ≡ 0 ∷ 0
    ∷ 0x00 ∷ 0x00 ∷ 0x00 ∷ 0x00 ∷ 0x00 ∷ 0x00 ∷ 0xF0 ∷ 0x3F
    ∷ 0x00 ∷ 0x00 ∷ 0x00 ∷ 0x00 ∷ 0x00 ∷ 0x04 ∷ 0xF0 ∷ 0x3F
    ∷ []
unfolding round_bytes_reported round_bytes_afterwards bytes_reported bytes_afterwards ragged bytes_of byte_by byte_of words_of word_at sum
    reported afterwards rounded_at array_refusal lengths_refusal uses_word refusal bits_fit precision_fits exponent_fits between mode_of
    rounded answer_to goes_to taken written takes_hi K u lo hi step step_exp zeta_exp emin etop T kind_of sign mag with_sign val worth pat
    size
rounded_bytes = refl

-- seven bytes are no word, and mode 8 needs one
few_words :
    rounding 11 15 8 53
    (0x00 ∷ 0x10 ∷ 0x00 ∷ 0x00 ∷ 0x00 ∷ 0x00 ∷ 0x08 ∷ [])
    (0xFE ∷ 0xFF ∷ 0xFF ∷ 0xFF ∷ 0xFF ∷ 0xFE ∷ 0xEF ∷ 0xC0 ∷ [])
    8
    ≡ 6 ∷ 0 ∷ untouched 8
unfolding round_bytes_reported round_bytes_afterwards bytes_reported bytes_afterwards ragged words_of word_at sum
    reported array_refusal lengths_refusal uses_word refusal bits_fit precision_fits exponent_fits between mode_of
few_words = refl

-- fifteen bytes are no output for one pattern, and stay as they are
ragged_output :
    rounding 4 15 7 53
    (0x00 ∷ 0x00 ∷ 0x00 ∷ 0x00 ∷ 0x00 ∷ 0x00 ∷ 0x40 ∷ 0x0E ∷ 0x01 ∷ 0x02 ∷ 0x03 ∷ [])
    (0xFF ∷ 0xFF ∷ 0xFF ∷ 0xFF ∷ 0xFF ∷ 0xFF ∷ 0xF7 ∷ 0x7F ∷ [])
    15
    ≡ 5 ∷ 0 ∷ untouched 15
unfolding round_bytes_reported round_bytes_afterwards bytes_reported bytes_afterwards ragged
    refusal bits_fit precision_fits exponent_fits between
ragged_output = refl

-- packing and unpacking without subnormals, by p, emax, the input and the output's length
abbrev packing : ℕ → ℕ → List ℕ → ℕ → List ℕ
packing p emax xs outputs =
    let f = format p emax false in
    row (pack_bytes_reported f xs (untouched outputs)) (pack_bytes_afterwards f xs (untouched outputs))

abbrev unpacking : ℕ → ℕ → List ℕ → ℕ → List ℕ
unpacking p emax codes outputs =
    let f = format p emax false in
    row (unpack_bytes_reported f codes (untouched outputs)) (unpack_bytes_afterwards f codes (untouched outputs))

-- minus 3/8 and 1/2
packed_bytes :
    packing 2 3
    (0x00 ∷ 0x00 ∷ 0x00 ∷ 0x00 ∷ 0x00 ∷ 0x00 ∷ 0xD8 ∷ 0xBF
    ∷ 0x00 ∷ 0x00 ∷ 0x00 ∷ 0x00 ∷ 0x00 ∷ 0x00 ∷ 0xE0 ∷ 0x3F
    ∷ [])
    16
    ≡ 0 ∷ 0
    ∷ 0x13 ∷ 0x00 ∷ 0x00 ∷ 0x00 ∷ 0x00 ∷ 0x00 ∷ 0x00 ∷ 0x00
    ∷ 0x04 ∷ 0x00 ∷ 0x00 ∷ 0x00 ∷ 0x00 ∷ 0x00 ∷ 0x00 ∷ 0x00
    ∷ []
unfolding pack_bytes_reported pack_bytes_afterwards bytes_reported bytes_afterwards ragged bytes_of byte_by byte_of words_of word_at sum
    codes_reported codes_afterwards then_lengths first_refused packed format_refusal precision_fits exponent_fits between has_code be width
    ones in_format has_by held lo step step_exp zeta_exp emin etop T code_of fields_by fields_of infinity_fields nan_fields kind_of sign mag
    val worth size
packed_bytes = refl

-- 3, and a pattern that is none of the format's
second_not_packed :
    packing 2 1
    (0x00 ∷ 0x00 ∷ 0x00 ∷ 0x00 ∷ 0x00 ∷ 0x00 ∷ 0x08 ∷ 0x40
    ∷ 0x02 ∷ 0x00 ∷ 0x00 ∷ 0x00 ∷ 0x00 ∷ 0x00 ∷ 0xD0 ∷ 0x3F
    ∷ [])
    16
    ≡ 8 ∷ 1 ∷ untouched 16
unfolding pack_bytes_reported pack_bytes_afterwards bytes_reported bytes_afterwards ragged bytes_of byte_by byte_of words_of word_at sum
    codes_reported codes_afterwards then_lengths first_refused packed format_refusal precision_fits exponent_fits between has_code be width
    ones in_format has_by held lo step step_exp zeta_exp emin etop T code_of fields_by fields_of infinity_fields nan_fields kind_of sign mag
    val worth size
second_not_packed = refl

-- a NaN with its sign, and infinity
unpacked_bytes :
    unpacking 2 7
    (0x3F ∷ 0x00 ∷ 0x00 ∷ 0x00 ∷ 0x00 ∷ 0x00 ∷ 0x00 ∷ 0x00
    ∷ 0x1E ∷ 0x00 ∷ 0x00 ∷ 0x00 ∷ 0x00 ∷ 0x00 ∷ 0x00 ∷ 0x00
    ∷ [])
    16
    ≡ 0 ∷ 0
    ∷ 0x00 ∷ 0x00 ∷ 0x00 ∷ 0x00 ∷ 0x00 ∷ 0x00 ∷ 0xF8 ∷ 0xFF
    ∷ 0x00 ∷ 0x00 ∷ 0x00 ∷ 0x00 ∷ 0x00 ∷ 0x00 ∷ 0xF0 ∷ 0x7F
    ∷ []
unfolding unpack_bytes_reported unpack_bytes_afterwards bytes_reported bytes_afterwards ragged bytes_of byte_by byte_of words_of word_at sum
    codes_reported codes_afterwards then_lengths first_refused unpacked format_refusal precision_fits exponent_fits between has_code be width
    ones bias no_number negative exponent fraction pattern_of magnitude_of worth_in emin pat size
unpacked_bytes = refl

-- infinity, and a code that is no number
second_not_unpacked :
    unpacking 3 1
    (0x0C ∷ 0x00 ∷ 0x00 ∷ 0x00 ∷ 0x00 ∷ 0x00 ∷ 0x00 ∷ 0x00
    ∷ 0x02 ∷ 0x00 ∷ 0x00 ∷ 0x00 ∷ 0x00 ∷ 0x00 ∷ 0x00 ∷ 0x00
    ∷ [])
    16
    ≡ 10 ∷ 1 ∷ untouched 16
unfolding unpack_bytes_reported unpack_bytes_afterwards bytes_reported bytes_afterwards ragged bytes_of byte_by byte_of words_of word_at sum
    codes_reported codes_afterwards then_lengths first_refused unpacked format_refusal precision_fits exponent_fits between has_code be width
    ones bias no_number negative exponent fraction pattern_of magnitude_of worth_in emin pat size
second_not_unpacked = refl

-- ---- the refusals in their order, by how many bytes of zeros the arrays have: a ragged input or output is refused as 5, even where
-- the whole words among them are as many, and ragged words are not

abbrev zeros : ℕ → List ℕ
zeros n = replicate n 0

abbrev round_refusal : ℕ → ℕ → ℕ → ℕ → ℕ → ℕ → ℕ → ℕ
round_refusal p emax mode r ws inputs outputs =
    (round_bytes_reported (format p emax true) mode r (zeros ws) (zeros inputs) (zeros outputs)).number

rounding_refusals :
    round_refusal 1 0 9 0 0 9 8
    ∷ round_refusal 11 0 9 0 0 9 8
    ∷ round_refusal 11 15 9 0 0 9 8
    ∷ round_refusal 11 15 7 0 0 9 8
    ∷ round_refusal 11 15 7 1 0 9 8
    ∷ round_refusal 11 15 7 1 0 8 9
    ∷ round_refusal 11 15 0 0 0 12 12
    ∷ round_refusal 11 15 0 0 0 16 8
    ∷ round_refusal 11 15 7 1 15 16 16
    ∷ round_refusal 11 15 7 1 17 16 16
    ∷ round_refusal 11 15 0 0 7 16 16
    ∷ round_refusal 11 15 8 0 7 0 0
    ∷ []
    ≡ 1 ∷ 2 ∷ 3 ∷ 4 ∷ 5 ∷ 5 ∷ 5 ∷ 5 ∷ 6 ∷ 0 ∷ 0 ∷ 0 ∷ []
unfolding round_bytes_reported bytes_reported ragged words_of
    reported array_refusal lengths_refusal uses_word refusal bits_fit precision_fits exponent_fits between mode_of
rounding_refusals = refl

abbrev pack_refusal : ℕ → ℕ → ℕ → ℕ → ℕ
pack_refusal p emax inputs outputs = (pack_bytes_reported (format p emax true) (zeros inputs) (zeros outputs)).number

packing_refusals :
    pack_refusal 1 14 9 8
    ∷ pack_refusal 11 1024 9 8
    ∷ pack_refusal 11 14 9 8
    ∷ pack_refusal 11 15 9 8
    ∷ pack_refusal 11 15 8 9
    ∷ pack_refusal 11 15 12 12
    ∷ pack_refusal 11 15 8 16
    ∷ pack_refusal 11 15 0 0
    ∷ []
    ≡ 1 ∷ 2 ∷ 7 ∷ 5 ∷ 5 ∷ 5 ∷ 5 ∷ 0 ∷ []
unfolding pack_bytes_reported bytes_reported ragged words_of
    codes_reported then_lengths first_refused format_refusal precision_fits exponent_fits between has_code be size
packing_refusals = refl

abbrev unpack_refusal : ℕ → ℕ → ℕ → ℕ → ℕ
unpack_refusal p emax inputs outputs = (unpack_bytes_reported (format p emax true) (zeros inputs) (zeros outputs)).number

unpacking_refusals :
    unpack_refusal 54 14 8 9
    ∷ unpack_refusal 11 0 8 9
    ∷ unpack_refusal 53 1022 8 9
    ∷ unpack_refusal 53 1023 8 9
    ∷ unpack_refusal 53 1023 9 8
    ∷ unpack_refusal 53 1023 4 4
    ∷ unpack_refusal 53 1023 0 8
    ∷ unpack_refusal 53 1023 0 0
    ∷ []
    ≡ 1 ∷ 2 ∷ 7 ∷ 5 ∷ 5 ∷ 5 ∷ 5 ∷ 0 ∷ []
unfolding unpack_bytes_reported bytes_reported ragged words_of
    codes_reported then_lengths first_refused format_refusal precision_fits exponent_fits between has_code be size
unpacking_refusals = refl
