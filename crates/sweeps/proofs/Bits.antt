-- The one bit that a mode looks at: by it the row of a place adds what the mode does, and overflows as the mode does. Assumes
-- nothing.
use Rattle.std.proofs.Common.{◌≡◌, ℕ, ◌+◌, ◌-◌, ◌/◌, ◌%◌, ◌^◌, ◌<◌, ◌≤◌, Bool, true, false, cond, not, eqb, ◌⊎◌, sym, refl, ap, ◌∙◌, subst, inl, inr, mod-eq_of_lt, arith, pow_pos, eq-eqb, ne_eqb, le-leb}
use lib.Bits.{bit_and, and_mask}
use borrow.Author.Tests.{lt-leb}
use Rattle.laws.proofs.Orders.{below_or_not}
use Rattle.patterns.specs.Patterns.{sign, mag, sig}
use Rattle.magnitudes.specs.declared.Mode.{Mode}
use Rattle.magnitudes.specs.declared.Mode.TheVariants.{TiesToEven, TiesToZero, TiesAway, TowardZero, TowardPlus, TowardMinus, ToOdd, Stochastic, EvenChance}
use Rattle.magnitudes.specs.Modes.{overflows}
use Rattle.magnitudes.specs.Increments.{increment}
use Rattle.magnitudes.proofs.Choices.{increment-below}
use Rattle.sweeps.specs.Rows.{bit_of, last_digit, adds_share, added_before, added_by}
use Rattle.sweeps.proofs.Sums.{pattern_digit}
use Rattle.sweeps.proofs.RowWords.{last_digit-one, last_digit_bit}

-- ---- the bit

-- it is 0 or 1
pub bit_small : (mode : Mode) (word x d : ℕ) → x < 2 ^ 64 → bit_of mode word x d < 2
unfolding bit_of
bit_small TiesToEven word x d fits = omega arith
bit_small TiesToZero word x d fits = omega arith
bit_small TiesAway word x d fits = omega arith
bit_small TowardZero word x d fits = omega arith
bit_small TowardPlus word x d fits = omega arith
bit_small TowardMinus word x d fits = omega arith
bit_small ToOdd word x d fits = omega arith
bit_small (Stochastic r) word x d fits = omega arith
bit_small EvenChance word x d fits = omega arith

-- the top bit of a pattern is its sign
sign_bit : (x : ℕ) → x < 2 ^ 64 → eqb (x / 2 ^ 63) 1 ≡ sign x
unfolding sign
sign_bit x fits = go (below_or_not x (2 ^ 63))
  where
    go : (x < 2 ^ 63) ⊎ (2 ^ 63 ≤ x) → eqb (x / 2 ^ 63) 1 ≡ sign x
    go (inl below) = ne_eqb (x / 2 ^ 63) 1 (λ (e : x / 2 ^ 63 ≡ 1). omega arith) ∙ sym (lt-leb (2 ^ 63) x below)
    go (inr past) = eq-eqb (x / 2 ^ 63) 1 (omega arith) ∙ sym (le-leb (2 ^ 63) x past)

-- a normal number's last kept digit is the significand's
last_digit_lem : (x d : ℕ) → 2 ^ 52 ≤ mag x → d < 53 → last_digit d (x / 2 ^ d % 2) % 2 ≡ sig (mag x) / 2 ^ d % 2
unfolding mag
last_digit_lem x d normal few = go (below_or_not d 52)
  where
    go : (d < 52) ⊎ (52 ≤ d) → last_digit d (x / 2 ^ d % 2) % 2 ≡ sig (mag x) / 2 ^ d % 2
    go (inl below) = omega (arith, last_digit_bit d (x / 2 ^ d % 2) (λ (e : d ≡ 52). omega arith), pattern_digit x d below)
    go (inr reached) =
        let at : d ≡ 52 = omega arith in
        ap (λ (n : ℕ). n % 2) (sym (last_digit-one d (x / 2 ^ d % 2) at)) ∙ omega arith ∙ ap (λ (k : ℕ). sig (mag x) / 2 ^ k % 2) (sym at)

-- ---- what a row adds

-- below the place of the sign
before_sign : (mode : Mode) (d bit : ℕ) → d < 63
    → added_before mode d bit ≡ cond (adds_share mode) (2 ^ d - 1) (increment mode (eqb bit 1) (last_digit d bit) (2 ^ d) bit)
unfolding added_before
before_sign mode d bit below =
    ap (λ (t : Bool). cond t 0 (cond (adds_share mode) (2 ^ d - 1) (increment mode (eqb bit 1) (last_digit d bit) (2 ^ d) bit)))
    (ne_eqb d 63 (λ (e : d ≡ 63). omega arith))

-- all of a share is within the digits below the place
share_whole : (mode : Mode) (negative : Bool) (m d word : ℕ) → bit_and (increment mode negative m (2 ^ d) word) (2 ^ d - 1) ≡ increment mode negative m (2 ^ d) word
share_whole mode negative m d word =
    and_mask (increment mode negative m (2 ^ d) word) d ∙ mod-eq_of_lt (increment-below mode negative m (2 ^ d) word (pow_pos d))

-- what the row adds to x, by x's own bit
abbrev pub row_adds : Mode → ℕ → ℕ → ℕ → ℕ
row_adds mode word x d = added_by mode (added_before mode d (bit_of mode word x d)) word d

-- Below the place of the sign it is an increment: by the word where the mode adds a share, and else by the bit alone.
row_adds_lem : (mode : Mode) (word x d : ℕ) → d < 63 → (b : Bool) → adds_share mode ≡ b
    → row_adds mode word x d ≡ cond b (increment mode false 0 (2 ^ d) word) (increment mode (eqb (bit_of mode word x d) 1) (last_digit d (bit_of mode word x d)) (2 ^ d) (bit_of mode word x d))
unfolding added_by
row_adds_lem mode word x d below true e = simp (before_sign mode d (bit_of mode word x d) below, e, share_whole mode false 0 d word)
row_adds_lem mode word x d below false e = simp (before_sign mode d (bit_of mode word x d) below, e)

-- so it stays below the place,
pub row_adds_below : (mode : Mode) (word x d : ℕ) → d < 63 → row_adds mode word x d < 2 ^ d
row_adds_below mode word x d below = go (adds_share mode) refl
  where
    bit : ℕ
    bit = bit_of mode word x d

    go : (b : Bool) → adds_share mode ≡ b → row_adds mode word x d < 2 ^ d
    go true e = subst (λ (i : ℕ). i < 2 ^ d) (sym (row_adds_lem mode word x d below true e)) (increment-below mode false 0 (2 ^ d) word (pow_pos d))
    go false e =
        subst (λ (i : ℕ). i < 2 ^ d) (sym (row_adds_lem mode word x d below false e)) (increment-below mode (eqb bit 1) (last_digit d bit) (2 ^ d) bit (pow_pos d))

-- and for a normal number it is the mode's own, since each mode looks at no more than its bit
pub row_adds_increment : (mode : Mode) (word x d : ℕ) → x < 2 ^ 64 → 2 ^ 52 ≤ mag x → d < 53
    → row_adds mode word x d ≡ increment mode (sign x) (sig (mag x) / 2 ^ d) (2 ^ d) word
unfolding bit_of adds_share increment
row_adds_increment mode word x d fits normal few = go mode
  where
    D : ℕ
    D = 2 ^ d

    below : d < 63
    below = omega arith

    go : (n : Mode) → row_adds n word x d ≡ increment n (sign x) (sig (mag x) / D) D word
    go TiesToEven = row_adds_lem TiesToEven word x d below false refl ∙ ap (λ (p : ℕ). ((D - 1) / 2 + p) % D) (last_digit_lem x d normal few)
    go TiesToZero = row_adds_lem TiesToZero word x d below false refl
    go TiesAway = row_adds_lem TiesAway word x d below false refl
    go TowardZero = row_adds_lem TowardZero word x d below false refl
    go TowardPlus = row_adds_lem TowardPlus word x d below false refl ∙ ap (λ (t : Bool). cond (not t) (D - 1) 0) (sign_bit x fits)
    go TowardMinus = row_adds_lem TowardMinus word x d below false refl ∙ ap (λ (t : Bool). cond t (D - 1) 0) (sign_bit x fits)
    go ToOdd = row_adds_lem ToOdd word x d below false refl ∙ ap (λ (p : ℕ). (D - 1 + p) % D) (last_digit_lem x d normal few)
    go (Stochastic r) = row_adds_lem (Stochastic r) word x d below true refl
    go EvenChance =
        let last : word % 2 % 2 ≡ word % 2 = omega arith in
        row_adds_lem EvenChance word x d below false refl ∙ ap (λ (p : ℕ). cond (eqb p 1) (D - 1) 0) last

-- ---- overflow

-- at the place of the sign a mode that looks at the sign has it for its bit
pub overflows_by_bit : (mode : Mode) (word x : ℕ) → x < 2 ^ 64 → overflows mode (eqb (bit_of mode word x 63) 1) ≡ overflows mode (sign x)
unfolding overflows bit_of
overflows_by_bit TiesToEven word x fits = refl
overflows_by_bit TiesToZero word x fits = refl
overflows_by_bit TiesAway word x fits = refl
overflows_by_bit TowardZero word x fits = refl
overflows_by_bit TowardPlus word x fits = ap not (sign_bit x fits)
overflows_by_bit TowardMinus word x fits = sign_bit x fits
overflows_by_bit ToOdd word x fits = refl
overflows_by_bit (Stochastic r) word x fits = refl
overflows_by_bit EvenChance word x fits = refl
