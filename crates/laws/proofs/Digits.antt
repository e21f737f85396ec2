-- How many binary digits a number has: `size n` of the toolchain's library, which is 0 for 0. Assumes nothing.
use mathlib.Core.Path.{◌≡◌, sym, subst}
use Prim.Native.Nat.{ℕ, zero, suc, ◌+◌, ◌-◌, ◌*◌, ◌^◌, ◌≤◌, ◌<◌, zero-le}
use native.Mathlib.Nat.{le_refl, le_antisymm, lt_of_le_of_lt, lt_of_not-le, not-le_of_lt, mul-le-mul_right, suc-add, pow-succ'}
use native.Mathlib.Omega.{arith}
use lib.Pow.{pow-add, pow_mono, pow-lt, shl_lt}
use lib.Count.{count_leading_zeros, leading_length}
use lib.Ieee.{size}
use lib.Ieee.Digits.{size-lt, size-le, size_reaches}

-- exponents are in the order of their powers
pow_below : (i j : ℕ) → 2 ^ i < 2 ^ j → i < j
pow_below i j h = lt_of_not-le (λ (g : j ≤ i). not-le_of_lt h (pow_mono g))

-- a number that reaches 2^j has more than j digits
pub size_above : (n j : ℕ) → 2 ^ j ≤ n → j < size n
size_above n j h = pow_below j (size n) (lt_of_le_of_lt h (size-lt n))

-- from 2^k up to 2^(k + 1) a number has k + 1 digits
pub size_is : (n k : ℕ) → 2 ^ k ≤ n → n < 2 ^ suc k → size n ≡ suc k
size_is n k least below = le_antisymm (size-le n (suc k) below) (size_above n k least)

-- a number that has a digit has its first one at the place below its count
pub size_first : (n k : ℕ) → size n ≡ suc k → 2 ^ k ≤ n
size_first n k e = size_reaches n k (subst (λ (s : ℕ). k < s) (sym e) (le_refl (suc k)))

-- a power has one digit more than its exponent
pub size-pow : (k : ℕ) → size (2 ^ k) ≡ suc k
size-pow k = size_is (2 ^ k) k (le_refl (2 ^ k)) (pow-lt (le_refl (suc k)))

-- j zeros behind a number of k + 1 digits
pub size_shift : (q k j : ℕ) → 2 ^ k ≤ q → q < 2 ^ suc k → size (q * 2 ^ j) ≡ suc (k + j)
size_shift q k j least below =
    size_is (q * 2 ^ j) (k + j)
    (subst (λ (x : ℕ). x ≤ q * 2 ^ j) (sym (pow-add 2 k j)) (mul-le-mul_right (2 ^ j) least))
    (subst (λ (x : ℕ). q * 2 ^ j < 2 ^ x) (suc-add k j) (shl_lt (suc k) j below))

-- the digits of a word are what its leading zeros leave
pub size_leading : (w n : ℕ) → n < 2 ^ w → w - count_leading_zeros w n ≡ size n
size_leading w n h = go (leading_length w n h)
  where
    most : (j : ℕ) → 2 ^ j ≤ 2 * n + 1 → j ≤ size n
    most zero g = zero-le
    most (suc i) g = size_above n i (halved i (subst (λ (x : ℕ). x ≤ 2 * n + 1) (pow-succ' 2 i) g))
      where
        halved : (i : ℕ) → 2 * 2 ^ i ≤ 2 * n + 1 → 2 ^ i ≤ n
        halved i g = omega arith

    go : (j : ℕ) × (count_leading_zeros w n + j ≡ w) × (n < 2 ^ j) × (2 ^ j ≤ 2 * n + 1) → w - count_leading_zeros w n ≡ size n
    go l =
        let counted = l.1 in
        let same : size n ≡ l.0 = le_antisymm (size-le n l.0 l.2) (most l.0 l.3) in
        omega arith
