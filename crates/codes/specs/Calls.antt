-- What a single call refuses, by number and in order, and what it answers (document 01, "Refusal numbers"). Assumes nothing.
use Rattle.std.specs.Prelude.{cond, ℕ, ◌^◌, leb, eqb}
use Rattle.grid.specs.declared.Format.{Format}
use Rattle.layouts.specs.Fields.{width}
use Rattle.layouts.specs.Calls.{format_refusal}
use Rattle.bylayout.specs.Answers.{Packed, Unpacked, as_code, no_code, as_pattern, no_pattern}
use Rattle.codes.specs.Unpacking.{pattern_of, no_number}
use Rattle.codes.specs.Packing.{code_of, in_format}

-- a pattern in a format that has a code: 8 where the format lacks it
unfoldable pub packed : Format → ℕ → Packed
packed f x = cond (in_format f x) (as_code (code_of f x)) (no_code 8)

-- a code of such a format: 9 where it has more than k bits, then 10 where it is no number
unfoldable pub unpacked : Format → ℕ → Unpacked
unpacked f c = cond (leb (2 ^ width f) c) (no_pattern 9) (cond (no_number f c) (no_pattern 10) (as_pattern (pattern_of f c)))

-- one pattern packed, or refused
unfoldable pub pack_one : Format → ℕ → Packed
pack_one f x = cond (eqb (format_refusal f) 0) (packed f x) (no_code (format_refusal f))

-- one code unpacked, or refused
unfoldable pub unpack_one : Format → ℕ → Unpacked
unpack_one f c = cond (eqb (format_refusal f) 0) (unpacked f c) (no_pattern (format_refusal f))
