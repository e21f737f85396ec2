-- What lists of numbers add up to: over the numbers below n, and over a list that has each of them once, in any order.
-- Assumes nothing.
use mathlib.Core.Bool.{Bool, true, false, cond, ◌&&◌}
use mathlib.Core.List.{List, [], ◌∷◌, ◌++◌, map}
use mathlib.Core.Path.{◌≡◌, refl, sym, ap, ap₂, ◌∙◌}
use mathlib.Core.Logic.{◌⊎◌, inl, inr}
use Prim.Native.Nat.{ℕ, zero, suc, ◌+◌, ◌-◌, ◌*◌, ◌≤◌, ◌<◌, zero-le, suc-le-suc}
use native.Mathlib.Nat.{add-zero, zero-add, add_assoc, add-mul, zero-mul, one-mul, suc-mul, zero-sub, le_of_suc-le-suc, not-suc-le-zero}
use native.Mathlib.Omega.{arith}
use lib.Dec.{leb, ltb, eqb, eqb-zero-suc, eqb-suc-zero, eqb-suc-suc}
use lib.ListN.{length}
use borrow.Author.Tests.{ltb-true, lt-ltb, le-leb, lt-leb}
use Rattle.laws.specs.Lists.{tab, below, times, sum}
use Rattle.laws.specs.Tables.{every}
use Rattle.laws.proofs.Lists.{tab_alike}
use Rattle.laws.proofs.Orders.{below_or_not, eqb_alike}
use Rattle.laws.proofs.Tests.{and_left, and_right}

-- ---- over the numbers below n

-- a rule that is 0 everywhere adds up to 0
sum_nothing : (n : ℕ) (g : ℕ → ℕ) → ((i : ℕ) → i < n → g i ≡ 0) → sum (tab n g) ≡ 0
unfolding sum
sum_nothing zero g none = refl
sum_nothing (suc n) g none =
    ap₂ (λ (x y : ℕ). x + y) (none 0 (suc-le-suc zero-le))
    (sum_nothing n (λ (i : ℕ). g (suc i)) (λ i h. none (suc i) (suc-le-suc h)))

-- a common factor of what is added up is one of the sum
pub sum_scales : (n : ℕ) (g : ℕ → ℕ) (c : ℕ) → sum (tab n (λ (k : ℕ). g k * c)) ≡ sum (tab n g) * c
unfolding sum
sum_scales zero g c = sym (zero-mul c)
sum_scales (suc n) g c =
    ap (λ (x : ℕ). g 0 * c + x) (sum_scales n (λ (k : ℕ). g (suc k)) c) ∙ sym (add-mul (g 0) (sum (tab n (λ (k : ℕ). g (suc k)))) c)

-- two rules are added up one after the other
sum_adds : (n : ℕ) (g h : ℕ → ℕ) → sum (tab n (λ (i : ℕ). g i + h i)) ≡ sum (tab n g) + sum (tab n h)
unfolding sum
sum_adds zero g h = refl
sum_adds (suc n) g h = let later = sum_adds n (λ (i : ℕ). g (suc i)) (λ (i : ℕ). h (suc i)) in omega arith

-- the last entry may be added at the end
sum_last : (n : ℕ) (g : ℕ → ℕ) → sum (tab (suc n) g) ≡ sum (tab n g) + g n
unfolding sum
sum_last zero g = omega arith
sum_last (suc n) g = let later = sum_last n (λ (i : ℕ). g (suc i)) in omega arith

-- where only the entry m counts, it is the sum
sum_one : (n : ℕ) (g : ℕ → ℕ) (m : ℕ) → m < n → sum (tab n (λ (i : ℕ). cond (eqb i m) (g i) 0)) ≡ g m
unfolding sum
sum_one zero g m h = absurd (not-suc-le-zero h)
sum_one (suc n) g zero h =
    ap (λ (x : ℕ). g 0 + x)
    (sum_nothing n (λ (i : ℕ). cond (eqb (suc i) 0) (g (suc i)) 0)
    (λ i below. ap (λ (b : Bool). cond b (g (suc i)) 0) (eqb-suc-zero i)))
    ∙ add-zero (g 0)
sum_one (suc n) g (suc m) h =
    ap₂ (λ (x y : ℕ). x + y) (ap (λ (b : Bool). cond b (g 0) 0) (eqb-zero-suc m))
    (ap sum
    (tab_alike n (λ (i : ℕ). cond (eqb (suc i) (suc m)) (g (suc i)) 0) (λ (i : ℕ). cond (eqb i m) (g (suc i)) 0)
    (λ i below. ap (λ (b : Bool). cond b (g (suc i)) 0) (eqb-suc-suc i m)))
    ∙ sum_one n (λ (i : ℕ). g (suc i)) m (le_of_suc-le-suc h))
    ∙ zero-add (g (suc m))

-- ones add up to their count
sum_of_ones : (n : ℕ) → sum (tab n (λ (i : ℕ). 1)) ≡ n
unfolding sum
sum_of_ones zero = refl
sum_of_ones (suc n) = ap (λ (x : ℕ). 1 + x) (sum_of_ones n) ∙ omega arith

-- one more entry past `start` is one more d
more_from : (start a d n : ℕ) → (n - start) * d + cond (leb start n) (a + d) a ≡ (suc n - start) * d + a
more_from start a d n = go (below_or_not n start)
  where
    go : (n < start) ⊎ (start ≤ n) → (n - start) * d + cond (leb start n) (a + d) a ≡ (suc n - start) * d + a
    go (inl before) =
        ap₂ (λ (k : ℕ) (b : Bool). k * d + cond b (a + d) a) (omega arith) (lt-leb start n before)
    go (inr reached) =
        let more : (suc n - start) * d ≡ (n - start) * d + d = ap (λ (k : ℕ). k * d) (omega arith) ∙ suc-mul (n - start) d in
        ap (λ (b : Bool). (n - start) * d + cond b (a + d) a) (le-leb start n reached) ∙ omega arith

-- a number n times over, and d more each time from the entry `start` on
pub sum_of_two : (start a d n : ℕ) → sum (tab n (λ (i : ℕ). cond (leb start i) (a + d) a)) ≡ n * a + (n - start) * d
unfolding sum
sum_of_two start a d zero = sym (ap₂ (λ (x y : ℕ). x + y) (zero-mul a) (ap (λ (k : ℕ). k * d) (zero-sub start) ∙ zero-mul d))
sum_of_two start a d (suc n) =
    sum_last n (λ (i : ℕ). cond (leb start i) (a + d) a)
    ∙ omega (arith, sum_of_two start a d n, more_from start a d n, suc-mul n a)

-- ---- over a list, by how often each number stands in it

-- a number that stands once more is counted once more
counted_once_more : (b : Bool) (k x : ℕ) → (cond b 1 0 + k) * x ≡ cond b x 0 + k * x
counted_once_more true k x = add-mul 1 k x ∙ ap (λ (y : ℕ). y + k * x) (one-mul x)
counted_once_more false k x = add-mul 0 k x ∙ ap (λ (y : ℕ). y + k * x) (zero-mul x)

-- a list of numbers below n adds up to each of them as often as it stands there
sum_counted :
    (n : ℕ) (g : ℕ → ℕ) (l : List ℕ) → every (λ (m : ℕ). ltb m n) l ≡ true
    → sum (map g l) ≡ sum (tab n (λ (i : ℕ). times i l * g i))
unfolding sum times
sum_counted n g [] small = sym (sum_nothing n (λ (i : ℕ). 0 * g i) (λ i below. zero-mul (g i)))
sum_counted n g (m ∷ ms) small =
    let later = every (λ (k : ℕ). ltb k n) ms in
    let under : m < n = ltb-true m n (and_left (ltb m n) later small) in
    ap₂ (λ (x y : ℕ). x + y) (sym (sum_one n g m under)) (sum_counted n g ms (and_right (ltb m n) later small))
    ∙ sym (sum_adds n (λ (i : ℕ). cond (eqb i m) (g i) 0) (λ (i : ℕ). times i ms * g i))
    ∙ ap sum
    (tab_alike n (λ (i : ℕ). cond (eqb i m) (g i) 0 + times i ms * g i) (λ (i : ℕ). (cond (eqb i m) 1 0 + times i ms) * g i)
    (λ i below. sym (counted_once_more (eqb i m) (times i ms) (g i))))

-- what a rule makes of any list is below n, where all that it makes is
pub small_map : (n : ℕ) (h : ℕ → ℕ) → ((m : ℕ) → h m < n) → (l : List ℕ) → every (λ (m : ℕ). ltb m n) (map h l) ≡ true
small_map n h under [] = refl
small_map n h under (m ∷ ms) = ap₂ (λ (s t : Bool). s && t) (lt-ltb (h m) n (under m)) (small_map n h under ms)

-- a list is as long as the sum of a one for each entry
length_counts : (l : List ℕ) → length l ≡ sum (map (λ (i : ℕ). 1) l)
unfolding sum
length_counts [] = refl
length_counts (m ∷ ms) = ap suc (length_counts ms) ∙ omega arith

module _ (n : ℕ) (l : List ℕ) (small : every (λ (m : ℕ). ltb m n) l ≡ true) (once : (i : ℕ) → i < n → times i l ≡ 1) where
  -- where each number below n stands once, and no other, the sum is that over the numbers in order
  pub sum_each_once : (g : ℕ → ℕ) → sum (map g l) ≡ sum (tab n g)
  sum_each_once g =
      sum_counted n g l small
      ∙ ap sum (tab_alike n (λ (i : ℕ). times i l * g i) g (λ i h. ap (λ (k : ℕ). k * g i) (once i h) ∙ one-mul (g i)))

  -- and there are n entries
  pub length_each_once : length l ≡ n
  length_each_once = length_counts l ∙ sum_each_once (λ (i : ℕ). 1) ∙ sum_of_ones n

-- how often a number stands in two lists, one behind the other
pub times-append : (n : ℕ) (l m : List ℕ) → times n (l ++ m) ≡ times n l + times n m
unfolding times
times-append n [] m = sym (zero-add (times n m))
times-append n (x ∷ l) m = ap (λ (k : ℕ). cond (eqb n x) 1 0 + k) (times-append n l m) ∙ sym (add_assoc (cond (eqb n x) 1 0) (times n l) (times n m))

-- how often a number stands in a list made by a rule
times-tab : (m n : ℕ) (g : ℕ → ℕ) → times m (tab n g) ≡ sum (tab n (λ (i : ℕ). cond (eqb m (g i)) 1 0))
unfolding sum times
times-tab m zero g = refl
times-tab m (suc n) g = ap (λ (x : ℕ). cond (eqb m (g 0)) 1 0 + x) (times-tab m n (λ (i : ℕ). g (suc i)))

-- the numbers below n have each of them once
pub below_each_once : (n m : ℕ) → m < n → times m (below n) ≡ 1
below_each_once n m h =
    times-tab m n (λ (i : ℕ). i)
    ∙ ap sum
    (tab_alike n (λ (i : ℕ). cond (eqb m i) 1 0) (λ (i : ℕ). cond (eqb i m) 1 0)
    (λ i under. ap (λ (b : Bool). cond b 1 0) (eqb_alike m i i m sym sym)))
    ∙ sum_one n (λ (i : ℕ). 1) m h
