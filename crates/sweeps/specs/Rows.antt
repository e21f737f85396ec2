-- The second table: what is kept and added, by the place and one bit. Assumes nothing.
use Rattle.std.specs.Prelude.{ℕ, ◌+◌, ◌-◌, ◌*◌, ◌/◌, ◌%◌, ◌^◌, min, max, Bool, true, false, cond, List, ◌==◌, bit_and, nat_le, nat_lt, slice_index}
use Rattle.laws.specs.Lists.{tab}
use Rattle.patterns.specs.Patterns.{infinity}
use Rattle.magnitudes.specs.declared.Mode.{Mode}
use Rattle.magnitudes.specs.declared.Mode.TheVariants.{TiesToEven, TiesToZero, TiesAway, TowardZero, TowardPlus, TowardMinus, ToOdd, Stochastic, EvenChance}
use Rattle.magnitudes.specs.declared.Settings.{Settings}
use Rattle.magnitudes.specs.Modes.{overflows}
use Rattle.magnitudes.specs.Increments.{increment}

-- the one bit by which a mode's increment at place d differs: the last kept digit, the sign, or the word's last bit
unfoldable pub bit_of : Mode → ℕ → ℕ → ℕ → ℕ
bit_of TiesToEven word x d = x / 2 ^ d % 2
bit_of TiesToZero word x d = 0
bit_of TiesAway word x d = 0
bit_of TowardZero word x d = 0
bit_of TowardPlus word x d = x / 2 ^ 63
bit_of TowardMinus word x d = x / 2 ^ 63
bit_of ToOdd word x d = x / 2 ^ d % 2
bit_of (Stochastic r) word x d = 0
bit_of EvenChance word x d = word % 2

-- lo's m as far as it matters: at place 52 it is the one in front of the fraction
unfoldable pub last_digit : ℕ → ℕ → ℕ
last_digit d bit = cond (d == 52) 1 bit

-- the mode adds a share of the place, by the word
unfoldable pub adds_share : Mode → Bool
adds_share TiesToEven = false
adds_share TiesToZero = false
adds_share TiesAway = false
adds_share TowardZero = false
adds_share TowardPlus = false
adds_share TowardMinus = false
adds_share ToOdd = false
adds_share (Stochastic r) = true
adds_share EvenChance = false

-- What a row adds before the digits below place d are cleared: the increment by the bit, or, where the mode adds a share, the
-- digits that this may have. Place 63 keeps the sign alone, and nothing is added there.
unfoldable pub added_before : Mode → ℕ → ℕ → ℕ
added_before mode d bit = cond (d == 63) 0 (cond (adds_share mode) (2 ^ d - 1) (increment mode (bit == 1) (last_digit d bit) (2 ^ d) bit))

-- what it adds behind: at place 63 what a magnitude from T on becomes, where a bit that is set is the sign
unfoldable pub added_behind : Settings → ℕ → ℕ → ℕ
added_behind s d bit = cond (nat_lt d 63) 0 (cond (overflows s.mode (bit == 1)) infinity s.xmax)

-- a row is four words: what is kept, what is added before, what is added behind, and nothing
unfoldable pub row_part : Settings → ℕ → ℕ → ℕ → ℕ
row_part s d bit part =
    cond (part == 0) (2 ^ 64 - 2 ^ d)
    (cond (part == 1) (added_before s.mode d bit)
    (cond (part == 2) (added_behind s d bit) 0))

-- the words of a table without blanks: two rows for each place, one for each bit
unfoldable pub row_of : Settings → ℕ → ℕ
row_of s at = row_part s (at / 8) (at / 4 % 2) (at % 4)

-- the first place past 0 that a number may have: the cut, but at least 1 and at most 53
unfoldable pub first_place : ℕ → ℕ
first_place cut = max 1 (min cut 53)

-- a number may have the place: 0, those from the cut to 52, where the one in front of the fraction stands, or the sign's
unfoldable pub is_taken : ℕ → ℕ → Bool
is_taken cut d = cond (nat_lt d 1) true (cond (nat_lt d (first_place cut)) false (cond (nat_lt d 53) true (nat_le 63 d)))

-- the words of the table: those of places that a number may have, and blank elsewhere
unfoldable pub row_word : Settings → ℕ → ℕ
row_word s at = cond (is_taken s.cut (at / 8)) (row_of s at) 0

-- the table: 128 rows
unfoldable pub row_table : Settings → List ℕ
row_table s = tab 512 (row_word s)

-- what is added of a row's word: all of it, or the mode's share within it
unfoldable pub added_by : Mode → ℕ → ℕ → ℕ → ℕ
added_by mode row word d = cond (adds_share mode) (bit_and (increment mode false 0 (2 ^ d) word) row) row

-- the pattern x rounded by the row of its place
unfoldable pub by_row : Mode → List ℕ → ℕ → ℕ → ℕ → ℕ
by_row mode rows place word x =
    let d = place % 64 in
    let at = 8 * d + 4 * bit_of mode word x d in
    (bit_and ((x + added_by mode (slice_index rows (at + 1)) word d) % 2 ^ 64) (slice_index rows at) + slice_index rows (at + 2)) % 2 ^ 64
