-- Whole multiples of a step d: `a / d * d` is the largest one that is not above a. Assumes nothing.
use mathlib.Core.Bool.{Bool, cond}
use mathlib.Core.Path.{◌≡◌, sym, ap, ◌∙◌, subst}
use mathlib.Core.Logic.{◌⊎◌, inl, inr}
use Prim.Native.Nat.{ℕ, suc, ◌+◌, ◌-◌, ◌*◌, ◌/◌, ◌%◌, ◌^◌, ◌≤◌, ◌<◌, zero-le}
use native.Mathlib.Nat.{add-mul, mul-add-div_right, suc-mul, mul-le-mul_right, lt_of_mul-lt-mul_right, mul_assoc, one-mul, zero-mul, sub-add_cancel, div-eq_of_lt, div-eq_of_lt-le, div-mul_cancel, div-mul-le_self, div-add-mod', dvd-mul_left, le-div_iff_mul-le, lt_of_le_of_lt, mod-lt, mul-add-mod_self_right}
use native.Mathlib.Omega.{arith}
use lib.Dec.{leb}
use lib.Pow.{pow-add, pow_pos, suc_ones, field}
use borrow.Author.Tests.{le-leb, lt-leb}
use Rattle.laws.proofs.Orders.{below_or_not, le_of_not_lt}

-- two multiples of d, one below the other, are at least d apart
pub multiples_apart : (d m n : ℕ) → m * d < n * d → m * d + d ≤ n * d
multiples_apart d m n h = subst (λ (x : ℕ). x ≤ n * d) (suc-mul m d) (mul-le-mul_right d (lt_of_mul-lt-mul_right d h))

-- what lies less than d above q multiples holds q of them
pub multiples_in : (d q c : ℕ) → q * d ≤ c → c < q * d + d → c / d ≡ q
multiples_in d q c least below = div-eq_of_lt-le d least (subst (λ (x : ℕ). c < x) (sym (add-mul q 1 d ∙ ap (λ (x : ℕ). q * d + x) (one-mul d))) below)

-- a multiple of d is its own largest one
pub multiple_whole : (d q n : ℕ) → n ≡ q * d → n / d * d ≡ n
multiple_whole d q n e = subst (λ (x : ℕ). x / d * d ≡ x) (sym e) (div-mul_cancel d (dvd-mul_left d q))

-- below d there is none but 0
pub multiple_none : (d n : ℕ) → n < d → n / d * d ≡ 0
multiple_none d n h = ap (λ (q : ℕ). q * d) (div-eq_of_lt h) ∙ zero-mul d

-- a number with j zeros behind it is whole at each place up to j
pub zeros_whole : (q i j : ℕ) → i ≤ j → q * 2 ^ j / 2 ^ i * 2 ^ i ≡ q * 2 ^ j
zeros_whole q i j h =
    multiple_whole (2 ^ i) (q * 2 ^ (j - i)) (q * 2 ^ j)
    (ap (λ (k : ℕ). q * 2 ^ k) (sym (sub-add_cancel h)) ∙ ap (λ (x : ℕ). q * x) (pow-add 2 (j - i) i) ∙ sym (mul_assoc q (2 ^ (j - i)) (2 ^ i)))

-- so is a power
pub pow_whole : (i j : ℕ) → i ≤ j → 2 ^ j / 2 ^ i * 2 ^ i ≡ 2 ^ j
pow_whole i j h = subst (λ (x : ℕ). x / 2 ^ i * 2 ^ i ≡ x) (one-mul (2 ^ j)) (zeros_whole 1 i j h)

-- p ones from a place on, and one more there, are a power
pub ones_and_one : (p k : ℕ) → (2 ^ p - 1) * 2 ^ k + 2 ^ k ≡ 2 ^ (p + k)
ones_and_one p k = sym (suc-mul (2 ^ p - 1) (2 ^ k)) ∙ ap (λ (x : ℕ). x * 2 ^ k) (suc_ones p) ∙ sym (pow-add 2 p k)

-- ---- a sum cleared to whole multiples

-- what is added below one step moves a number up by a step exactly where it and the rest reach one
pub clears_carry : (d n i : ℕ) → i < d → (n + i) / d * d ≡ n / d * d + cond (leb d (n % d + i)) d 0
clears_carry d n i small = go (below_or_not (n % d + i) d)
  where
    go : (n % d + i < d) ⊎ (d ≤ n % d + i) → (n + i) / d * d ≡ n / d * d + cond (leb d (n % d + i)) d 0
    go (inl short) =
        let whole : n / d * d + n % d ≡ n = div-add-mod' n d in
        let stays : (n + i) / d ≡ n / d = multiples_in d (n / d) (n + i) (omega arith) (omega arith) in
        ap (λ (q : ℕ). q * d) stays ∙ omega arith ∙ ap (λ (b : Bool). n / d * d + cond b d 0) (sym (lt-leb d (n % d + i) short))
    go (inr reached) =
        let whole : n / d * d + n % d ≡ n = div-add-mod' n d in
        let next : suc (n / d) * d ≡ n / d * d + d = suc-mul (n / d) d in
        let under : n % d < d = mod-lt n (lt_of_le_of_lt zero-le small) in
        let moves : (n + i) / d ≡ suc (n / d) = multiples_in d (suc (n / d)) (n + i) (omega arith) (omega arith) in
        ap (λ (q : ℕ). q * d) moves ∙ next ∙ ap (λ (b : Bool). n / d * d + cond b d 0) (sym (le-leb d (n % d + i) reached))

-- digits from a place on that is not below the cut are not touched
pub clears_past : (i j q n : ℕ) → i ≤ j → (q * 2 ^ j + n) / 2 ^ i * 2 ^ i ≡ q * 2 ^ j + n / 2 ^ i * 2 ^ i
clears_past i j q n h =
    let d = 2 ^ i in
    let b = q * 2 ^ j / d in
    let whole : b * d ≡ q * 2 ^ j = zeros_whole q i j h in
    ap (λ (x : ℕ). (x + n) / d * d) (sym whole) ∙ ap (λ (x : ℕ). x * d) (mul-add-div_right (pow_pos i) b n) ∙ add-mul b (n / d) d
    ∙ ap (λ (x : ℕ). x + n / d * d) whole

-- and a digit below that place is not touched by them
pub digit_past : (i j q n : ℕ) → i < j → (q * 2 ^ j + n) / 2 ^ i % 2 ≡ n / 2 ^ i % 2
digit_past i j q n h =
    let d = 2 ^ (1 + i) in
    let b = q * 2 ^ j / d in
    let whole : b * d ≡ q * 2 ^ j = zeros_whole q (1 + i) j (omega arith) in
    sym (field (q * 2 ^ j + n) 1 i)
    ∙ ap (λ (x : ℕ). x / 2 ^ i) (ap (λ (x : ℕ). (x + n) % d) (sym whole) ∙ mul-add-mod_self_right b d n)
    ∙ field n 1 i

-- a power that a number reaches, its multiples reach
pub clears_least : (i j n : ℕ) → i ≤ j → 2 ^ j ≤ n → 2 ^ j ≤ n / 2 ^ i * 2 ^ i
clears_least i j n h reached =
    let d = 2 ^ i in
    subst (λ (x : ℕ). x ≤ n / d * d) (pow_whole i j h)
    (mul-le-mul_right d ((le-div_iff_mul-le (pow_pos i)).1 (subst (λ (x : ℕ). x ≤ n) (sym (pow_whole i j h)) reached)))

-- and a power that a number misses by less than a step, they do not pass
pub clears_most : (i j n : ℕ) → i ≤ j → n < 2 ^ j + 2 ^ i → n / 2 ^ i * 2 ^ i ≤ 2 ^ j
clears_most i j n h near = le_of_not_lt missed
  where
    missed : 2 ^ j < n / 2 ^ i * 2 ^ i → ⊥
    missed past =
        let d = 2 ^ i in
        let whole : 2 ^ j / d * d ≡ 2 ^ j = pow_whole i j h in
        let apart : 2 ^ j / d * d + d ≤ n / d * d = multiples_apart d (2 ^ j / d) (n / d) (omega arith) in
        let least : n / d * d ≤ n = div-mul-le_self n d in
        omega arith
