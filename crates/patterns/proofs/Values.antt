-- Patterns and values: `val` and `pat` undo each other, and the order of patterns is the order of numbers. The numbers 52
-- and 53 are binary64's own: these are the laws of the one source format. Assumes nothing.
use mathlib.Core.Path.{◌≡◌, refl, sym, ap, ap₂, ◌∙◌, subst}
use mathlib.Core.Logic.{◌⊎◌, inl, inr}
use Prim.Native.Nat.{ℕ, zero, suc, ◌+◌, ◌-◌, ◌*◌, ◌/◌, ◌%◌, ◌^◌, ◌≤◌, ◌<◌}
use native.Mathlib.Nat.{le_refl, le_antisymm, le_of_lt, lt_trans, lt_irrefl, lt_of_lt_of_le, lt_of_not-le, not-le_of_lt, mul-lt-mul_of_pos_right, mul-div_cancel, mul-one, mul_assoc, zero-add, div-one, div-add-mod', pow-succ', eq-zero-or-pos, eq-or-lt_of_le, le-div_iff_mul-le}
use native.Mathlib.Omega.{arith}
use native.Mathlib.Decide.{le_ind}
use lib.Dec.{ltb}
use lib.Pow.{pow-add, pow_pos, pow_mono, shl_lt, shr_lt}
use lib.Ieee.{size}
use lib.Ieee.Digits.{size-lt, size-le, size_reaches}
use Rattle.laws.proofs.Digits.{size_shift}
use Rattle.laws.proofs.Multiples.{zeros_whole}
use Rattle.laws.proofs.Orders.{leb_alike, below_or_not, le_of_not_lt}
use Rattle.patterns.specs.Patterns.{infinity, worth, val, ex, sig, digits_of, Short, Binary64, pat}

-- ---- the two readings of a value

-- the two fields' worth as one product: the pattern less its exponent's part is the significand
worth_product : (field fraction m : ℕ) → field * 2 ^ 52 + fraction ≡ m → worth field fraction ≡ (m - (field - 1) * 2 ^ 52) * 2 ^ (field - 1)
unfolding worth
worth_product zero fraction m e = omega arith
worth_product (suc x) fraction m e =
    let same : x ≡ suc x - 1 = omega arith in
    let left : 2 ^ 52 + fraction ≡ m - x * 2 ^ 52 = omega arith in
    ap (λ (s : ℕ). s * 2 ^ x) left ∙ ap (λ (k : ℕ). (m - k * 2 ^ 52) * 2 ^ k) same

-- the value is the significand shifted by the exponent, for small numbers too
pub val_product : (m : ℕ) → val m ≡ sig m * 2 ^ ex m
unfolding val
val_product m = worth_product (m / 2 ^ 52) (m % 2 ^ 52) m (div-add-mod' m (2 ^ 52))

-- below 2^53 a pattern is worth itself: the subnormals, and the normal numbers that share their step
pub val_small : (m : ℕ) → m < 2 ^ 53 → val m ≡ m
val_small m h =
    let none : ex m ≡ 0 = omega arith in
    let all : sig m ≡ m = omega arith in
    val_product m ∙ ap₂ (λ (s k : ℕ). s * 2 ^ k) all none ∙ mul-one m

-- an exponent and a significand as a pattern has them: the exponent is 0, or the significand has all its digits
abbrev pub Full : ℕ → ℕ → Type 0
Full e s = (e ≡ 0) ⊎ (2 ^ 52 ≤ s)

pub sig_full : (m : ℕ) → Full (ex m) (sig m)
sig_full m = go (eq-zero-or-pos (ex m))
  where
    go : (ex m ≡ 0) ⊎ (0 < ex m) → Full (ex m) (sig m)
    go (inl none) = inl none
    go (inr some) = inr (omega arith)

-- The value at an exponent and a significand. The significand 2^53 is let in: a carry out of the fraction raises the
-- exponent by one, and the value is right.
pub val_at : (e s : ℕ) → s ≤ 2 ^ 53 → Full e s → val (e * 2 ^ 52 + s) ≡ s * 2 ^ e
val_at e s most full = val_product (e * 2 ^ 52 + s) ∙ go full (eq-or-lt_of_le most)
  where
    read : ex (e * 2 ^ 52 + s) ≡ e → sig (e * 2 ^ 52 + s) ≡ s → sig (e * 2 ^ 52 + s) * 2 ^ ex (e * 2 ^ 52 + s) ≡ s * 2 ^ e
    read same kept = ap₂ (λ (a b : ℕ). a * 2 ^ b) kept same

    go : Full e s → (s ≡ 2 ^ 53) ⊎ (s < 2 ^ 53) → sig (e * 2 ^ 52 + s) * 2 ^ ex (e * 2 ^ 52 + s) ≡ s * 2 ^ e
    go d (inl all) =
        let carried : ex (e * 2 ^ 52 + s) ≡ suc e = omega arith in
        let one : sig (e * 2 ^ 52 + s) ≡ 2 ^ 52 = omega arith in
        ap₂ (λ (a b : ℕ). a * 2 ^ b) one carried ∙ ap (λ (x : ℕ). 2 ^ 52 * x) (pow-succ' 2 e)
        ∙ sym (mul_assoc (2 ^ 52) 2 (2 ^ e)) ∙ ap (λ (x : ℕ). x * 2 ^ e) (sym all)
    go (inl none) (inr below) = read (omega arith) (omega arith)
    go (inr first) (inr below) = read (omega arith) (omega arith)

-- ---- the order of patterns

-- the next pattern is worth one more in its last place
pub val_next : (m : ℕ) → val (suc m) ≡ suc (sig m) * 2 ^ ex m
val_next m = ap val split ∙ val_at (ex m) (suc (sig m)) (omega arith) (go (sig_full m))
  where
    split : suc m ≡ ex m * 2 ^ 52 + suc (sig m)
    split = omega arith

    go : Full (ex m) (sig m) → Full (ex m) (suc (sig m))
    go (inl none) = inl none
    go (inr first) = inr (omega arith)

val_climbs : (m : ℕ) → val m < val (suc m)
val_climbs m =
    subst (λ (v : ℕ). v < val (suc m)) (sym (val_product m))
    (subst (λ (v : ℕ). sig m * 2 ^ ex m < v) (sym (val_next m)) (mul-lt-mul_of_pos_right (le_refl (suc (sig m))) (pow_pos (ex m))))

-- a larger pattern is worth more
pub val_increasing : (m n : ℕ) → m < n → val m < val n
val_increasing m n h = le_ind (λ (k : ℕ). val m < val k) (val_climbs m) (λ k g below. lt_trans below (val_climbs k)) n h

-- no two patterns are worth the same
pub val_injective : (m n : ℕ) → val m ≡ val n → m ≡ n
val_injective m n e = le_antisymm (not_above m n e) (not_above n m (sym e))
  where
    not_above : (m n : ℕ) → val m ≡ val n → m ≤ n
    not_above m n e = le_of_not_lt (λ (g : n < m). lt_irrefl (val n) (subst (λ (v : ℕ). val n < v) e (val_increasing n m g)))

-- what is worth more is a larger pattern
pub val_order : (m n : ℕ) → val m < val n → m < n
val_order m n h = lt_of_not-le (λ (g : n ≤ m). go g (eq-or-lt_of_le g))
  where
    go : n ≤ m → (n ≡ m) ⊎ (n < m) → ⊥
    go g (inl e) = lt_irrefl (val m) (subst (λ (k : ℕ). val m < val k) e h)
    go g (inr l) = lt_irrefl (val m) (lt_trans h (val_increasing n m l))

-- ---- there and back

-- a value with a full significand has 53 digits, and as many more as its exponent says
pub val-digits : (m : ℕ) → 2 ^ 52 ≤ sig m → size (val m) ≡ 53 + ex m
val-digits m full = ap size (val_product m) ∙ size_shift (sig m) 52 (ex m) full (omega arith) ∙ omega arith

-- a number of at most 53 digits is its own pattern
pat_small : (n : ℕ) → size n ≤ 53 → pat n ≡ n
unfolding pat
pat_small n h =
    let none : size n - 53 ≡ 0 = omega arith in
    ap (λ (k : ℕ). k * 2 ^ 52 + n / 2 ^ k) none ∙ zero-add (n / 1) ∙ div-one n

-- pat after val: every pattern comes back
pub pat-val : (m : ℕ) → pat (val m) ≡ m
unfolding pat
pat-val m = go (sig_full m)
  where
    go : Full (ex m) (sig m) → pat (val m) ≡ m
    go (inl none) =
        let below : m < 2 ^ 53 = omega arith in
        ap pat (val_small m below) ∙ pat_small m (size-le m 53 below)
    go (inr full) =
        let over : size (val m) - 53 ≡ ex m = ap (λ (s : ℕ). s - 53) (val-digits m full) ∙ omega arith in
        ap (λ (k : ℕ). k * 2 ^ 52 + val m / 2 ^ k) over
        ∙ ap (λ (v : ℕ). ex m * 2 ^ 52 + v / 2 ^ ex m) (val_product m)
        ∙ ap (λ (q : ℕ). ex m * 2 ^ 52 + q) (mul-div_cancel (sig m) (pow_pos (ex m)))
        ∙ omega arith

-- val after pat: nothing of a short number is lost
pub val-pat : (n : ℕ) → Short n → val (pat n) ≡ n
unfolding pat
val-pat n s = go (below_or_not 53 (size n))
  where
    -- the zeros behind a short number's digits reach down to the place that pat cuts at
    zeros : (e : ℕ) → size n ≡ 53 + e → e ≤ s.place
    zeros e over =
        let most = size-le n (53 + s.place) (subst (λ (x : ℕ). x < 2 ^ (53 + s.place)) (sym s.is) (shl_lt 53 s.place s.fits)) in
        omega arith

    long : (e : ℕ) → size n ≡ 53 + e → size n - 53 ≡ e → val (pat n) ≡ n
    long e over cut =
        let first : 2 ^ (52 + e) ≤ n = size_reaches n (52 + e) (omega arith) in
        let below : n < 2 ^ (53 + e) = subst (λ (x : ℕ). n < 2 ^ x) over (size-lt n) in
        ap (λ (k : ℕ). val (k * 2 ^ 52 + n / 2 ^ k)) cut
        ∙ val_at e (n / 2 ^ e) (le_of_lt (shr_lt 53 e below)) (inr ((le-div_iff_mul-le (pow_pos e)).1 (subst (λ (x : ℕ). x ≤ n) (pow-add 2 52 e) first)))
        ∙ subst (λ (x : ℕ). x / 2 ^ e * 2 ^ e ≡ x) (sym s.is) (zeros_whole s.m e s.place (zeros e over))

    go : (53 < size n) ⊎ (size n ≤ 53) → val (pat n) ≡ n
    go (inl over) = long (size n - 53) (omega arith) refl
    go (inr small) = ap val (pat_small n small) ∙ val_small n (lt_of_lt_of_le (size-lt n) (pow_mono small))

-- every value is short
pub val_short : (m : ℕ) → Short (val m)
val_short m = record { m = sig m; place = ex m; fits = omega arith; is = val_product m }

-- infinity's pattern stands where 2^1024 would
pub val-infinity : val infinity ≡ 2 ^ (1074 + 1024)
unfolding val worth
val-infinity = refl

pub pat-infinity : pat (2 ^ (1074 + 1024)) ≡ infinity
pat-infinity = ap pat (sym val-infinity) ∙ pat-val infinity

-- Finite patterns and the magnitudes of binary64 are the same things: each finite pattern is worth one, and each has its
-- finite pattern.
pub finite_binary64 : (m : ℕ) → m < infinity → Binary64 (val m)
finite_binary64 m h = record { short = val_short m; below = subst (λ (v : ℕ). val m < v) val-infinity (val_increasing m infinity h) }

pub binary64_finite : (n : ℕ) → Binary64 n → pat n < infinity
binary64_finite n b =
    val_order (pat n) infinity
    (subst (λ (v : ℕ). val (pat n) < v) (sym val-infinity) (subst (λ (v : ℕ). v < 2 ^ (1074 + 1024)) (sym (val-pat n b.short)) b.below))

-- a larger short number has a larger pattern
pub pat_increasing : (m n : ℕ) → Short m → Short n → m < n → pat m < pat n
pat_increasing m n a b h =
    val_order (pat m) (pat n) (subst (λ (v : ℕ). v < val (pat n)) (sym (val-pat m a)) (subst (λ (v : ℕ). m < v) (sym (val-pat n b)) h))

-- the pattern at an exponent and a significand, as `val_at`
pub pat_at : (e s : ℕ) → s ≤ 2 ^ 53 → Full e s → pat (s * 2 ^ e) ≡ e * 2 ^ 52 + s
pat_at e s most full = ap pat (sym (val_at e s most full)) ∙ pat-val (e * 2 ^ 52 + s)

-- comparing a pattern with a short number's is comparing the numbers
pub pattern_below : (m n : ℕ) → Short n → ltb m (pat n) ≡ ltb (val m) n
pattern_below m n s =
    leb_alike (suc m) (pat n) (suc (val m)) n
    (λ (h : m < pat n). subst (λ (v : ℕ). val m < v) (val-pat n s) (val_increasing m (pat n) h))
    (λ (h : val m < n). val_order m (pat n) (subst (λ (v : ℕ). val m < v) (sym (val-pat n s)) h))

-- ---- counting the digits of a pattern's value

-- a normal number's are counted by its exponent field
pub digits_normal : (m : ℕ) → 2 ^ 52 ≤ m → m / 2 ^ 52 + 52 ≡ digits_of m
unfolding digits_of
digits_normal m h =
    let full : 2 ^ 52 ≤ sig m = omega arith in
    omega (arith, val-digits m full)

-- any other's are its fraction's
pub digits_subnormal : (m : ℕ) → m < 2 ^ 52 → size m ≡ digits_of m
unfolding digits_of
digits_subnormal m h = ap size (sym (val_small m (omega arith)))

-- there is no third case
abbrev pub DigitCases : ℕ → Type 0
DigitCases m = ((m < 2 ^ 52) × (digits_of m ≤ 52)) ⊎ ((2 ^ 52 ≤ m) × (m / 2 ^ 52 + 52 ≡ digits_of m))

pub digit_cases : (m : ℕ) → DigitCases m
digit_cases m = go (below_or_not m (2 ^ 52))
  where
    go : (m < 2 ^ 52) ⊎ (2 ^ 52 ≤ m) → DigitCases m
    go (inl h) = inl (h, subst (λ (n : ℕ). n ≤ 52) (digits_subnormal m h) (size-le m 52 h))
    go (inr h) = inr (h, digits_normal m h)

-- ---- orders that let two be equal

-- what is worth no more is a pattern no larger
val_not_above : (m n : ℕ) → val m ≤ val n → m ≤ n
val_not_above m n h = le_of_not_lt (λ (g : n < m). not-le_of_lt (val_increasing n m g) h)

-- the pattern of a short number that is at most a pattern's value is at most that pattern,
pub pat_not_above : (n m : ℕ) → Short n → n ≤ val m → pat n ≤ m
pat_not_above n m s h = val_not_above (pat n) m (subst (λ (v : ℕ). v ≤ val m) (sym (val-pat n s)) h)

-- and of one that is at least the value at least the pattern
pub pat_not_below : (n m : ℕ) → Short n → val m ≤ n → m ≤ pat n
pat_not_below n m s h = val_not_above m (pat n) (subst (λ (v : ℕ). val m ≤ v) (sym (val-pat n s)) h)
