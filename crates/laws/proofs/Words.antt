-- Words of w bits, as shifts and masks leave them. Assumes nothing.
use mathlib.Core.Path.{◌≡◌, sym, ap, ◌∙◌, subst}
use Prim.Native.Nat.{ℕ, ◌+◌, ◌-◌, ◌*◌, ◌/◌, ◌%◌, ◌^◌, ◌≤◌, ◌<◌}
use native.Mathlib.Nat.{le_trans, lt_of_lt_of_le, one-mul, mul_assoc, mul-le-mul, mul-mod_left, mod-le, div-eq_of_lt, mod-eq_of_lt, sub-add_cancel}
use native.Mathlib.Omega.{arith}
use lib.Bits.{bit_and, bit_or, and_mask, and_le_l, and_le_r, or_add_and}
use lib.Pow.{pow-add, pow_pos, pow_mono, pow-lt}

-- a one shifted to a place of the word is that power
pub one_shifted : (w d : ℕ) → d < w → 1 * 2 ^ d % 2 ^ w ≡ 2 ^ d
one_shifted w d h = ap (λ (x : ℕ). x % 2 ^ w) (one-mul (2 ^ d)) ∙ mod-eq_of_lt (pow-lt h)

-- so it is there
pub one_shifted_some : (w d : ℕ) → d < w → 1 ≤ 1 * 2 ^ d % 2 ^ w
one_shifted_some w d h = subst (λ (n : ℕ). 1 ≤ n) (sym (one_shifted w d h)) (pow_pos d)

-- a small number shifted a little is not above a larger power, whatever the word drops
pub shifted_not_above : (w c d i j y : ℕ) → c ≤ 2 ^ i → d ≤ j → 2 ^ (i + j) ≤ y → c * 2 ^ d % 2 ^ w ≤ y
shifted_not_above w c d i j y small few large =
    le_trans (mod-le (c * 2 ^ d) (2 ^ w)) (le_trans (mul-le-mul small (pow_mono few)) (subst (λ (x : ℕ). x ≤ y) (pow-add 2 i j) large))

-- nothing of the word stands past its width
pub high_past : (w n d : ℕ) → n < 2 ^ w → w ≤ d → n / 2 ^ d ≡ 0
high_past w n d h g = div-eq_of_lt (lt_of_lt_of_le h (pow_mono g))

-- and all of it stands below
pub low_past : (w n d : ℕ) → n < 2 ^ w → w ≤ d → n % 2 ^ d ≡ n
low_past w n d h g = mod-eq_of_lt (lt_of_lt_of_le h (pow_mono g))

-- a mask of d ones leaves the digits below d
pub low_masked : (w n d : ℕ) → d < w → bit_and n (1 * 2 ^ d % 2 ^ w - 1) ≡ n % 2 ^ d
low_masked w n d h = ap (λ (x : ℕ). bit_and n (x - 1)) (one_shifted w d h) ∙ and_mask n d

-- nothing stays of what is moved past the word
pub moved_past : (w n d : ℕ) → w ≤ d → n * 2 ^ d % 2 ^ w ≡ 0
moved_past w n d past =
    ap (λ (k : ℕ). n * 2 ^ k % 2 ^ w) (sym (sub-add_cancel past))
    ∙ ap (λ (x : ℕ). n * x % 2 ^ w) (pow-add 2 (d - w) w)
    ∙ ap (λ (x : ℕ). x % 2 ^ w) (sym (mul_assoc n (2 ^ (d - w)) (2 ^ w)))
    ∙ mul-mod_left (n * 2 ^ (d - w)) (2 ^ w)

-- where the bits of two numbers together stay below a power, each number does
pub or_left_below : (k a b : ℕ) → bit_or a b < 2 ^ k → a < 2 ^ k
or_left_below k a b h = omega (arith, or_add_and a b, and_le_r a b)

pub or_right_below : (k a b : ℕ) → bit_or a b < 2 ^ k → b < 2 ^ k
or_right_below k a b h = omega (arith, or_add_and a b, and_le_l a b)
