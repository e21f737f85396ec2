-- Packing and unpacking as they are computed, from a layout that is worked out once for a format. That the answers are those that
-- are meant is said by the laws `packed_by-layout` and `unpacked_by-layout`. For layouts of any other numbers this is only what the
-- code does. `m` is a magnitude pattern, `n` the exponent and fraction fields of a code as one number. Assumes nothing.
use Rattle.std.specs.Prelude.{ℕ, ◌+◌, ◌-◌, ◌%◌, ◌^◌, Bool, true, cond, not, ◌&&◌, ◌==◌, nat_lt}
use Rattle.patterns.specs.declared.Kind.{Kind}
use Rattle.patterns.specs.declared.Kind.TheVariants.{Zero, Finite, Infinity, NaN}
use Rattle.patterns.specs.Patterns.{mag, with_sign, infinity, quiet_nan, kind_of, ex, sig, digits_of}
use Rattle.places.specs.Places.{high, low, moved_up}
use Rattle.layouts.specs.declared.Layout.{Layout}
use Rattle.bylayout.specs.Answers.{Packed, Unpacked, as_code, no_code, as_pattern, no_pattern}

-- ---- packing

-- below the normal range a number of the format has no digit below this place of its significand
abbrev pub depth : ℕ → ℕ → ℕ
depth bottom m = bottom - ex m

-- whether a finite magnitude is one of the format's
unfoldable pub held_by : Layout → ℕ → Bool
held_by l m = cond (nat_lt m l.normal) (low (sig m) (depth l.bottom m) == 0) (nat_lt m l.top && low m l.cut == 0)

-- The fields of one that is: below the normal range its digits from that place on; else those of the smallest normal number, and as
-- many more as the format has numbers from there up to it, which is the difference of the two patterns without the cut digits.
unfoldable pub finite_fields : Layout → ℕ → ℕ
finite_fields l m = cond (nat_lt m l.normal) (high (sig m) (depth l.bottom m)) ((high (m - l.normal) l.cut + l.first) % 2 ^ 64)

-- the code: the fields and the sign of x are put together at the top of a word, and moved down
abbrev pub code_by : Layout → ℕ → ℕ → ℕ
code_by l x n = high (with_sign x (moved_up n l.spare)) l.spare

-- whether the format has what the pattern is, and the fields of it
unfoldable pub has_as : Layout → Kind → ℕ → Bool
has_as l Zero m = true
has_as l Finite m = held_by l m
has_as l Infinity m = true
has_as l NaN m = true

unfoldable pub fields_as : Layout → Kind → ℕ → ℕ
fields_as l Zero m = 0
fields_as l Finite m = finite_fields l m
fields_as l Infinity m = l.infinity
fields_as l NaN m = l.nan

-- a pattern's code, or refusal 8
unfoldable pub packed_by : Layout → ℕ → Packed
packed_by l x = cond (has_as l (kind_of x) (mag x)) (as_code (code_by l x (fields_as l (kind_of x) (mag x)))) (no_code 8)

-- ---- unpacking

-- The pattern of n · 2^bottom units: n is moved up until its first digit stands where a normal number has it, or as far as
-- bottom goes, and what is left of bottom is the exponent.
unfoldable pub small_pattern : ℕ → ℕ → ℕ
small_pattern bottom n =
    let room = 53 - digits_of n in
    cond (n == 0) 0 (cond (nat_lt bottom room) (moved_up n bottom) ((moved_up (bottom - room) 52 + moved_up n room) % 2 ^ 64))

-- the magnitude pattern of the fields n: below the normal range, in it, infinity, or NaN
unfoldable pub magnitude_by : Layout → ℕ → ℕ
magnitude_by l n =
    cond (nat_lt n l.first) (small_pattern l.bottom n)
    (cond (nat_lt n l.infinity) ((moved_up (n - l.first) l.cut + l.normal) % 2 ^ 64)
    (cond (n == l.infinity) infinity quiet_nan))

-- whether the fields are no number: without subnormals, above 0 and below the normal range
unfoldable pub no_number_by : Layout → ℕ → Bool
no_number_by l n = not l.sub && (not (n == 0) && nat_lt n l.first)

-- the code at the top of a word: its sign stands where binary64 has it
abbrev pub lifted : Layout → ℕ → ℕ
lifted l c = moved_up c l.spare

-- its exponent and fraction fields
abbrev pub fields_in : Layout → ℕ → ℕ
fields_in l c = high (mag (lifted l c)) l.spare

-- a code's pattern, or refusal 9, then 10
unfoldable pub unpacked_by : Layout → ℕ → Unpacked
unpacked_by l c =
    cond (nat_lt l.last c) (no_pattern 9)
    (cond (no_number_by l (fields_in l c)) (no_pattern 10)
    (as_pattern (with_sign (lifted l c) (magnitude_by l (fields_in l c)))))
