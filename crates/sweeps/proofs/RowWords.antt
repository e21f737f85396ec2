-- The words of a row, in the form in which the code comes to them. Assumes nothing.
use Rattle.std.proofs.Common.{◌≡◌, ℕ, ◌+◌, ◌-◌, ◌*◌, ◌/◌, ◌%◌, ◌^◌, ◌<◌, ◌≤◌, Bool, true, false, cond, eqb, List, get_or, refl, sym, ap, mod-eq_of_lt, le-ltb, lt-ltb, eq-eqb, ne_eqb}
use lib.Bits.{bit_and}
use Rattle.laws.proofs.Words.{one_shifted}
use Rattle.patterns.specs.Patterns.{infinity}
use Rattle.magnitudes.specs.declared.Mode.{Mode}
use Rattle.magnitudes.specs.declared.Mode.TheVariants.{TiesToEven, TiesToZero, TiesAway, TowardZero, TowardPlus, TowardMinus, ToOdd, Stochastic, EvenChance}
use Rattle.magnitudes.specs.declared.Settings.{Settings}
use Rattle.magnitudes.specs.Modes.{mode_of, overflows}
use Rattle.magnitudes.specs.Increments.{increment}
use Rattle.sweeps.specs.Rows.{bit_of, last_digit, adds_share, added_before, added_behind, added_by, by_row}

-- ---- the bit, where it is not always 0

module _ (mode : Mode) (word x d : ℕ) where
  pub ties_to_even_bit : mode ≡ TiesToEven → x / 2 ^ d % 2 ≡ bit_of mode word x d
  unfolding bit_of
  ties_to_even_bit is = simp is

  pub toward_plus_bit : mode ≡ TowardPlus → x / 2 ^ 63 ≡ bit_of mode word x d
  unfolding bit_of
  toward_plus_bit is = simp is

  pub toward_minus_bit : mode ≡ TowardMinus → x / 2 ^ 63 ≡ bit_of mode word x d
  unfolding bit_of
  toward_minus_bit is = simp is

  pub to_odd_bit : mode ≡ ToOdd → x / 2 ^ d % 2 ≡ bit_of mode word x d
  unfolding bit_of
  to_odd_bit is = simp is

  pub even_chance_bit : mode ≡ EvenChance → word % 2 ≡ bit_of mode word x d
  unfolding bit_of
  even_chance_bit is = simp is

-- ---- lo's m

module _ (d bit : ℕ) where
  pub last_digit-one : d ≡ 52 → 1 ≡ last_digit d bit
  unfolding last_digit
  last_digit-one at = sym (ap (λ (t : Bool). cond t 1 bit) (eq-eqb d 52 at))

  pub last_digit_bit : (d ≡ 52 → ⊥) → bit ≡ last_digit d bit
  unfolding last_digit
  last_digit_bit not_at = sym (ap (λ (t : Bool). cond t 1 bit) (ne_eqb d 52 not_at))

-- ---- what is added before

module _ (mode : Mode) (d bit : ℕ) where
  pub nothing_before : d ≡ 63 → 0 ≡ added_before mode d bit
  unfolding added_before
  nothing_before at = simp (eq-eqb d 63 at)

  module _ (not_at : d ≡ 63 → ⊥) (b : Bool) (e : b ≡ adds_share mode) where
    pub share_before : d < 64 → b ≡ true → 1 * 2 ^ d % 2 ^ 64 - 1 ≡ added_before mode d bit
    unfolding added_before
    share_before fits shares = simp (ne_eqb d 63 not_at, ← e, shares, one_shifted 64 d fits)

    pub increment_before : d < 64 → b ≡ false → (m : ℕ) → m ≡ last_digit d bit → (i : ℕ) → i ≡ increment mode (eqb bit 1) m (2 ^ (d % 64)) bit
        → i ≡ added_before mode d bit
    unfolding added_before
    increment_before fits whole m last i is = simp (is, ne_eqb d 63 not_at, ← e, whole, last, mod-eq_of_lt fits)

-- ---- what is added behind

module _ (s : Settings) (d bit : ℕ) where
  pub nothing_behind : d < 63 → 0 ≡ added_behind s d bit
  unfolding added_behind
  nothing_behind below = simp (lt-ltb d 63 below)

  module _ (at : 63 ≤ d) (b : Bool) (e : b ≡ overflows s.mode (eqb bit 1)) where
    pub infinity-behind : b ≡ true → infinity ≡ added_behind s d bit
    unfolding added_behind
    infinity-behind over = simp (le-ltb d 63 at, ← e, over)

    pub xmax-behind : b ≡ false → s.xmax ≡ added_behind s d bit
    unfolding added_behind
    xmax-behind not-over = simp (le-ltb d 63 at, ← e, not-over)

-- ---- what is added of a row's word

module _ (mode : Mode) (row word d : ℕ) (b : Bool) (e : b ≡ adds_share mode) where
  pub share_added : d < 64 → b ≡ true → (i : ℕ) → i ≡ increment mode false 0 (2 ^ (d % 64)) word → bit_and i row ≡ added_by mode row word d
  unfolding added_by
  share_added fits shares i is = simp (is, ← e, shares, mod-eq_of_lt fits)

  pub all_added : b ≡ false → row ≡ added_by mode row word d
  unfolding added_by
  all_added whole = simp (← e, whole)

-- every mode but stochastic rounding adds no share
pub no_share : (mode : Mode) → ((r : ℕ) → mode ≡ Stochastic r → ⊥) → false ≡ adds_share mode
unfolding adds_share
no_share TiesToEven other = refl
no_share TiesToZero other = refl
no_share TiesAway other = refl
no_share TowardZero other = refl
no_share TowardPlus other = refl
no_share TowardMinus other = refl
no_share ToOdd other = refl
no_share (Stochastic r) other = absurd (other r refl)
no_share EvenChance other = refl

-- ---- a pattern rounded by a row

-- what is worked out step by step from the row's words is the pattern rounded by the row, in the mode that a number and r name
pub by_row_lem : (number r : ℕ) (rows : List ℕ) (place word x : ℕ) (mode : Mode) → mode ≡ mode_of number r
    → (bit : ℕ) → bit ≡ bit_of mode word x (place % 64)
    → (i : ℕ) → i ≡ added_by mode (get_or rows (8 * (place % 64) + 4 * bit + 1) 0) word (place % 64)
    → (sum : ℕ) → sum ≡ (x + i) % 2 ^ 64
    → (y : ℕ) → y ≡ (bit_and sum (get_or rows (8 * (place % 64) + 4 * bit) 0) + get_or rows (8 * (place % 64) + 4 * bit + 2) 0) % 2 ^ 64
    → y ≡ by_row (mode_of number r) rows place word x
unfolding by_row
by_row_lem number r rows place word x mode named bit looked i share sum added y answer = simp (answer, added, share, looked, named)
