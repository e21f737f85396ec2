-- The table's choice between lo and hi, for every mode: it is the choice by increment, it goes by the rest and the step only
-- up to scale, and random bits never move an exact input. Assumes nothing.
use mathlib.Core.Bool.{Bool, true, false, not, cond, ◌&&◌, ◌||◌}
use mathlib.Core.Path.{◌≡◌, refl, sym, ap, ap₂, ◌∙◌, subst}
use mathlib.Core.Logic.{◌⊎◌, inl, inr}
use Prim.Native.Nat.{ℕ, zero, suc, ◌+◌, ◌-◌, ◌*◌, ◌/◌, ◌%◌, ◌^◌, ◌≤◌, ◌<◌, zero-le, max}
use native.Mathlib.Nat.{lt_of_le_of_lt, mod_self, le_refl, le_of_lt, lt_of_lt_of_le, mod-lt, mod-eq_of_lt, mul_comm, mul_assoc, mul-zero, zero-add, add-mul, mul-lt-mul_of_pos_right, zero-div, div-eq_of_lt, div-lt_iff_lt-mul, le-div_iff_mul-le, mul-div-mul_right, pow-succ', eq-or-lt_of_le, sub-add_cancel}
use native.Mathlib.Omega.{arith}
use lib.Dec.{leb, ltb, eqb}
use lib.Pow.{pow_pos, pow_mono, shr_le, shr-shr}
use borrow.Author.Tests.{lt-ltb, le-ltb, le-leb, lt-leb, eq-eqb, ne_eqb}
use Rattle.laws.proofs.Orders.{below_or_not, leb_alike}
use Rattle.laws.proofs.Scales.{scale_div, leb_scales, ltb_scales, eqb_scales}
use Rattle.places.specs.Places.{high}
use Rattle.magnitudes.specs.declared.Mode.{Mode}
use Rattle.magnitudes.specs.declared.Mode.TheVariants.{TiesToEven, TiesToZero, TiesAway, TowardZero, TowardPlus, TowardMinus, ToOdd, Stochastic, EvenChance}
use Rattle.magnitudes.specs.Modes.{ModeFits, even, odd, K, u, takes_hi}
use Rattle.magnitudes.specs.Increments.{increment}
use Rattle.magnitudes.specs.BySettings.{trace}

-- ---- the choice by increment

-- an increment of all but one, or of nothing, is below the step
all_or_nothing_below : (all : Bool) (D : ℕ) → 0 < D → cond all (D - 1) 0 < D
all_or_nothing_below true D h = omega arith
all_or_nothing_below false D h = h

-- u is one of 2^r numbers
pub u-below : (r word : ℕ) → u r word < 2 ^ r
unfolding u
u-below r word = mod-lt word (pow_pos r)

-- each increment is below the step
pub increment-below : (mode : Mode) (negative : Bool) (m D word : ℕ) → 0 < D → increment mode negative m D word < D
unfolding increment
increment-below TiesToEven negative m D word h = mod-lt ((D - 1) / 2 + m % 2) h
increment-below TiesToZero negative m D word h = omega arith
increment-below TiesAway negative m D word h = omega arith
increment-below TowardZero negative m D word h = h
increment-below TowardPlus negative m D word h = all_or_nothing_below (not negative) D h
increment-below TowardMinus negative m D word h = all_or_nothing_below negative D h
increment-below ToOdd negative m D word h = mod-lt (D - 1 + m % 2) h
increment-below (Stochastic r) negative m D word h =
    (div-lt_iff_lt-mul (pow_pos r)).1 (subst (λ (x : ℕ). u r word * D < x) (mul_comm (2 ^ r) D) (mul-lt-mul_of_pos_right (u-below r word) h))
increment-below EvenChance negative m D word h = all_or_nothing_below (odd word) D h

-- of lo's m an increment looks at no more than whether it is odd
pub increment_parity :
    (mode : Mode) (negative : Bool) (m n D word : ℕ) → m % 2 ≡ n % 2 → increment mode negative m D word ≡ increment mode negative n D word
unfolding increment
increment_parity TiesToEven negative m n D word e = ap (λ (x : ℕ). ((D - 1) / 2 + x) % D) e
increment_parity TiesToZero negative m n D word e = refl
increment_parity TiesAway negative m n D word e = refl
increment_parity TowardZero negative m n D word e = refl
increment_parity TowardPlus negative m n D word e = refl
increment_parity TowardMinus negative m n D word e = refl
increment_parity ToOdd negative m n D word e = ap (λ (x : ℕ). (D - 1 + x) % D) e
increment_parity (Stochastic r) negative m n D word e = refl
increment_parity EvenChance negative m n D word e = refl

-- any rest reaches the step with all but one, and none does with nothing
all_or_nothing_reaches : (all : Bool) (rest D : ℕ) → 0 < rest → rest < D → all ≡ leb D (rest + cond all (D - 1) 0)
all_or_nothing_reaches true rest D some below = sym (le-leb D (rest + (D - 1)) (omega arith))
all_or_nothing_reaches false rest D some below = sym (lt-leb D (rest + 0) (omega arith))

-- with half a step less one, and one more where m is odd, a rest reaches the step where ties to even takes hi
even_reaches :
    (m rest half : ℕ) → 0 < half
    → (ltb (2 * half) (2 * rest) || (eqb (2 * half) (2 * rest) && odd m)) ≡ leb (2 * half) (rest + (half - 1 + m % 2))
even_reaches m rest half some = go (below_or_not (2 * half) (2 * rest))
  where
    reached : Bool
    reached = leb (2 * half) (rest + (half - 1 + m % 2))

    is_reached : 2 * half ≤ rest + (half - 1 + m % 2) → true ≡ reached
    is_reached h = sym (le-leb (2 * half) (rest + (half - 1 + m % 2)) h)

    is_not : rest + (half - 1 + m % 2) < 2 * half → false ≡ reached
    is_not h = sym (lt-leb (2 * half) (rest + (half - 1 + m % 2)) h)

    tie : half ≡ rest → (m % 2 < 1) ⊎ (1 ≤ m % 2) → odd m ≡ reached
    tie e (inl h) = ne_eqb (m % 2) 1 (λ (o : m % 2 ≡ 1). omega arith) ∙ is_not (omega arith)
    tie e (inr h) = eq-eqb (m % 2) 1 (omega arith) ∙ is_reached (omega arith)

    not_past : (2 * rest ≡ 2 * half) ⊎ (2 * rest < 2 * half) → (eqb (2 * half) (2 * rest) && odd m) ≡ reached
    not_past (inl e) = ap (λ (t : Bool). t && odd m) (eq-eqb (2 * half) (2 * rest) (sym e)) ∙ tie (omega arith) (below_or_not (m % 2) 1)
    not_past (inr h) =
        ap (λ (t : Bool). t && odd m) (ne_eqb (2 * half) (2 * rest) (λ (e : 2 * half ≡ 2 * rest). omega arith)) ∙ is_not (omega arith)

    go : (2 * half < 2 * rest) ⊎ (2 * rest ≤ 2 * half) → (ltb (2 * half) (2 * rest) || (eqb (2 * half) (2 * rest) && odd m)) ≡ reached
    go (inl h) = ap (λ (t : Bool). t || (eqb (2 * half) (2 * rest) && odd m)) (lt-ltb (2 * half) (2 * rest) h) ∙ is_reached (omega arith)
    go (inr h) = ap (λ (t : Bool). t || (eqb (2 * half) (2 * rest) && odd m)) (le-ltb (2 * half) (2 * rest) h) ∙ not_past (eq-or-lt_of_le h)

-- which is ties to even's increment there
even-increment : (m half : ℕ) → 0 < half → ((2 * half - 1) / 2 + m % 2) % (2 * half) ≡ half - 1 + m % 2
even-increment m half some =
    let whole : (2 * half - 1) / 2 + m % 2 ≡ half - 1 + m % 2 = omega arith in
    ap (λ (x : ℕ). x % (2 * half)) whole ∙ mod-eq_of_lt (omega arith)

-- to odd's is all but one where m is even, and nothing where it is odd
odd-increment : (m D : ℕ) → 0 < D → (D - 1 + m % 2) % D ≡ cond (even m) (D - 1) 0
odd-increment m D some = go (below_or_not 0 (m % 2))
  where
    go : (0 < m % 2) ⊎ (m % 2 ≤ 0) → (D - 1 + m % 2) % D ≡ cond (even m) (D - 1) 0
    go (inl h) =
        let whole : D - 1 + m % 2 ≡ D = omega arith in
        ap (λ (x : ℕ). x % D) whole ∙ mod_self D
        ∙ sym (ap (λ (b : Bool). cond b (D - 1) 0) (ne_eqb (m % 2) 0 (λ (e : m % 2 ≡ 0). omega arith)))
    go (inr h) =
        let rest : D - 1 + m % 2 ≡ D - 1 = omega arith in
        ap (λ (x : ℕ). x % D) rest ∙ mod-eq_of_lt (omega arith)
        ∙ sym (ap (λ (b : Bool). cond b (D - 1) 0) (eq-eqb (m % 2) 0 (omega arith)))

-- Of R shares of a step D, those in the rest and v more make R exactly where the rest and v shares' worth make D: both say
-- that the R - v shares that are left are not above the rest.
shares_reach : (R D rest v : ℕ) → 0 < R → 0 < D → v < R → rest < D → leb R (R * rest / D + v) ≡ leb D (rest + v * D / R)
shares_reach R D rest v many some under below = leb_alike R (R * rest / D + v) D (rest + v * D / R) there back
  where
    shares_left : (R - v) * D + v * D ≡ R * D
    shares_left = sym (add-mul (R - v) v D) ∙ ap (λ (x : ℕ). x * D) (sub-add_cancel (le_of_lt under))

    step_left : (D - rest) * R + R * rest ≡ R * D
    step_left =
        ap (λ (x : ℕ). (D - rest) * R + x) (mul_comm R rest) ∙ sym (add-mul (D - rest) rest R)
        ∙ ap (λ (x : ℕ). x * R) (sub-add_cancel (le_of_lt below)) ∙ mul_comm D R

    there : R ≤ R * rest / D + v → D ≤ rest + v * D / R
    there h =
        let left : (R - v) * D ≤ R * rest = (le-div_iff_mul-le some).0 (omega arith) in
        let reached : D - rest ≤ v * D / R = (le-div_iff_mul-le many).1 (omega (arith, shares_left, step_left)) in
        omega arith

    back : D ≤ rest + v * D / R → R ≤ R * rest / D + v
    back h =
        let left : (D - rest) * R ≤ v * D = (le-div_iff_mul-le many).0 (omega arith) in
        let reached : R - v ≤ R * rest / D = (le-div_iff_mul-le some).1 (omega (arith, shares_left, step_left)) in
        omega arith

-- the choice by increment, at a step of two halves
choice_by_half :
    (mode : Mode) (negative : Bool) (m rest half word : ℕ) → 0 < rest → rest < 2 * half
    → takes_hi mode negative m rest (2 * half) word ≡ leb (2 * half) (rest + increment mode negative m (2 * half) word)
unfolding takes_hi increment K
choice_by_half TiesToEven negative m rest half word some below =
    let some-half : 0 < half = omega arith in
    even_reaches m rest half some-half ∙ ap (λ (x : ℕ). leb (2 * half) (rest + x)) (sym (even-increment m half some-half))
choice_by_half TiesToZero negative m rest half word some below =
    leb_alike (suc (2 * half)) (2 * rest) (2 * half) (rest + (2 * half - 1) / 2)
    (λ (h : 2 * half < 2 * rest). omega arith) (λ (h : 2 * half ≤ rest + (2 * half - 1) / 2). omega arith)
choice_by_half TiesAway negative m rest half word some below =
    leb_alike (2 * half) (2 * rest) (2 * half) (rest + 2 * half / 2)
    (λ (h : 2 * half ≤ 2 * rest). omega arith) (λ (h : 2 * half ≤ rest + 2 * half / 2). omega arith)
choice_by_half TowardZero negative m rest half word some below = all_or_nothing_reaches false rest (2 * half) some below
choice_by_half TowardPlus negative m rest half word some below = all_or_nothing_reaches (not negative) rest (2 * half) some below
choice_by_half TowardMinus negative m rest half word some below = all_or_nothing_reaches negative rest (2 * half) some below
choice_by_half ToOdd negative m rest half word some below =
    all_or_nothing_reaches (even m) rest (2 * half) some below
    ∙ ap (λ (x : ℕ). leb (2 * half) (rest + x)) (sym (odd-increment m (2 * half) (lt_of_le_of_lt zero-le below)))
choice_by_half (Stochastic r) negative m rest half word some below =
    shares_reach (2 ^ r) (2 * half) rest (u r word) (pow_pos r) (omega arith) (u-below r word) below
choice_by_half EvenChance negative m rest half word some below = all_or_nothing_reaches (odd word) rest (2 * half) some below

-- hi is taken exactly where the rest and the increment reach the step
pub choice_by_increment :
    (mode : Mode) (negative : Bool) (m rest d word : ℕ) → 0 < rest → rest < 2 ^ d
    → takes_hi mode negative m rest (2 ^ d) word ≡ leb (2 ^ d) (rest + increment mode negative m (2 ^ d) word)
choice_by_increment mode negative m rest zero word some below = absurd (omega arith)
choice_by_increment mode negative m rest (suc d) word some below =
    subst (λ (D : ℕ). takes_hi mode negative m rest D word ≡ leb D (rest + increment mode negative m D word)) (sym (pow-succ' 2 d))
    (choice_by_half mode negative m rest (2 ^ d) word some (subst (λ (D : ℕ). rest < D) (pow-succ' 2 d) below))

-- ---- the choice and the scale

-- the rest and the step may both be scaled
pub choice_scales :
    (mode : Mode) (negative : Bool) (m rest step c word : ℕ) → 0 < c
    → takes_hi mode negative m (rest * c) (step * c) word ≡ takes_hi mode negative m rest step word
unfolding takes_hi K
choice_scales TiesToEven negative m rest step c word some =
    ap (λ (x : ℕ). ltb (step * c) x || (eqb (step * c) x && odd m)) (sym (mul_assoc 2 rest c))
    ∙ ap₂ (λ (s t : Bool). s || (t && odd m)) (ltb_scales step (2 * rest) c some) (eqb_scales step (2 * rest) c some)
choice_scales TiesToZero negative m rest step c word some = ap (ltb (step * c)) (sym (mul_assoc 2 rest c)) ∙ ltb_scales step (2 * rest) c some
choice_scales TiesAway negative m rest step c word some = ap (leb (step * c)) (sym (mul_assoc 2 rest c)) ∙ leb_scales step (2 * rest) c some
choice_scales TowardZero negative m rest step c word some = refl
choice_scales TowardPlus negative m rest step c word some = refl
choice_scales TowardMinus negative m rest step c word some = refl
choice_scales ToOdd negative m rest step c word some = refl
choice_scales (Stochastic r) negative m rest step c word some =
    ap (λ (k : ℕ). leb (2 ^ r) (k + u r word))
    (ap (λ (x : ℕ). x / (step * c)) (sym (mul_assoc (2 ^ r) rest c)) ∙ mul-div-mul_right (2 ^ r * rest) step some)
choice_scales EvenChance negative m rest step c word some = refl

-- ---- the choice far below the step

-- a trace is seen by no cut above the last digit
trace_unseen : (n k j : ℕ) → 0 < j → trace n k / 2 ^ j ≡ n / 2 ^ (k + j)
unfolding trace high
trace_unseen n k j some = go (below_or_not 0 (n / 2 ^ k)) ∙ shr-shr n k j
  where
    go : (0 < n / 2 ^ k) ⊎ (n / 2 ^ k ≤ 0) → max 1 (n / 2 ^ k) / 2 ^ j ≡ n / 2 ^ k / 2 ^ j
    go (inl h) =
        let all : max 1 (n / 2 ^ k) ≡ n / 2 ^ k = omega arith in
        ap (λ (x : ℕ). x / 2 ^ j) all
    go (inr h) =
        let one : max 1 (n / 2 ^ k) ≡ 1 = omega arith in
        let none : n / 2 ^ k ≡ 0 = omega arith in
        let more : 2 ≤ 2 ^ j = pow_mono {i = 1} {j = j} some in
        ap (λ (x : ℕ). x / 2 ^ j) one ∙ div-eq_of_lt more ∙ sym (zero-div (2 ^ j)) ∙ ap (λ (x : ℕ). x / 2 ^ j) (sym none)

-- a trace of a small number is small
pub trace_small : (n k : ℕ) → n < 2 ^ 53 → trace n k < 2 ^ 53
unfolding trace high
trace_small n k h = omega (arith, shr_le n k)

-- K at a step of 2^d, where r is at most d: the digits of the rest from place d - r on
shares_high : (r rest d : ℕ) → r ≤ d → K r rest (2 ^ d) ≡ rest / 2 ^ (d - r)
unfolding K
shares_high r rest d h =
    ap₂ (λ (x k : ℕ). x / 2 ^ k) (mul_comm (2 ^ r) rest) (sym (sub-add_cancel h)) ∙ scale_div rest (d - r) r

-- a small rest is less than half of a far step, so no nearest mode takes hi
module _ (negative : Bool) (rest d word : ℕ) (small : rest < 2 ^ 53) (far : 63 ≤ d) where
  twice_below : 2 * rest < 2 ^ d
  twice_below = lt_of_lt_of_le {m = 2 ^ 54} (omega arith) (pow_mono {i = 54} {j = d} (omega arith))

  even_far : takes_hi TiesToEven negative 0 rest (2 ^ d) word ≡ false
  unfolding takes_hi
  even_far =
      ap₂ (λ (s t : Bool). s || (t && odd 0)) (le-ltb (2 ^ d) (2 * rest) (le_of_lt twice_below))
      (ne_eqb (2 ^ d) (2 * rest) (λ (e : 2 ^ d ≡ 2 * rest). omega (arith, twice_below)))

  zero_far : takes_hi TiesToZero negative 0 rest (2 ^ d) word ≡ false
  unfolding takes_hi
  zero_far = le-ltb (2 ^ d) (2 * rest) (le_of_lt twice_below)

  away_far : takes_hi TiesAway negative 0 rest (2 ^ d) word ≡ false
  unfolding takes_hi
  away_far = lt-leb (2 ^ d) (2 * rest) twice_below

-- a small rest at a far place, and its trace at place 63, are chosen alike
pub choice_far :
    (mode : Mode) (negative : Bool) (n d word : ℕ) → ModeFits mode → n < 2 ^ 53 → 63 ≤ d
    → takes_hi mode negative 0 n (2 ^ d) word ≡ takes_hi mode negative 0 (trace n (d - 63)) (2 ^ 63) word
unfolding takes_hi
choice_far TiesToEven negative n d word fits small far =
    even_far negative n d word small far ∙ sym (even_far negative (trace n (d - 63)) 63 word (trace_small n (d - 63) small) (le_refl 63))
choice_far TiesToZero negative n d word fits small far =
    zero_far negative n d word small far ∙ sym (zero_far negative (trace n (d - 63)) 63 word (trace_small n (d - 63) small) (le_refl 63))
choice_far TiesAway negative n d word fits small far =
    away_far negative n d word small far ∙ sym (away_far negative (trace n (d - 63)) 63 word (trace_small n (d - 63) small) (le_refl 63))
choice_far TowardZero negative n d word fits small far = refl
choice_far TowardPlus negative n d word fits small far = refl
choice_far TowardMinus negative n d word fits small far = refl
choice_far ToOdd negative n d word fits small far = refl
choice_far (Stochastic r) negative n d word fits small far =
    let below : r ≤ 53 = (fits r refl).1 in
    let place : d - r ≡ d - 63 + (63 - r) = omega arith in
    ap (λ (k : ℕ). leb (2 ^ r) (k + u r word))
    (shares_high r n d (omega arith) ∙ ap (λ (k : ℕ). n / 2 ^ k) place
    ∙ sym (trace_unseen n (d - 63) (63 - r) (omega arith)) ∙ sym (shares_high r (trace n (d - 63)) 63 (omega arith)))
choice_far EvenChance negative n d word fits small far = refl

-- ---- the choice where nothing is left

-- no rest holds no share
pub no_shares : (r G : ℕ) → K r 0 G ≡ 0
unfolding K
no_shares r G = ap (λ (n : ℕ). n / G) (mul-zero (2 ^ r)) ∙ zero-div G

-- random bits never move an exact input: the table needs no case for it
pub stochastic_exact : (r : ℕ) (negative : Bool) (m step word : ℕ) → takes_hi (Stochastic r) negative m 0 step word ≡ false
unfolding takes_hi
stochastic_exact r negative m step word =
    ap (λ (k : ℕ). leb (2 ^ r) (k + u r word)) (no_shares r step)
    ∙ lt-leb (2 ^ r) (0 + u r word) (subst (λ (x : ℕ). x < 2 ^ r) (sym (zero-add (u r word))) (u-below r word))
