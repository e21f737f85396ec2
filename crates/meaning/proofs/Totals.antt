-- Demand 3 is met: the answers to one input with each random number once, in any order, add up to 2^r times the chopped input.
-- First the sum of the magnitudes, then how far it is from the input, then the total with its sign. Assumes nothing.
use mathlib.Core.Bool.{Bool, true, false, cond}
use mathlib.Core.List.{List, [], ◌∷◌, map}
use mathlib.Core.Path.{◌≡◌, refl, sym, ap, ap₂, ◌∙◌}
use Prim.Native.Nat.{ℕ, ◌+◌, ◌-◌, ◌*◌, ◌/◌, ◌%◌, ◌^◌, ◌≤◌, ◌<◌}
use native.Mathlib.Nat.{mul-add, add-mul, mul_assoc, mul-add-div_right, add-sub_of_le, div-add-mod', div-mul-le_self, lt-div-mul-add, mod-eq_of_lt}
use native.Mathlib.Omega.{arith}
use lib.Dec.{leb}
use lib.IntN.{ℤ, pos, neg_ℤ, ◌+ℤ◌, neg_ℤ-+ℤ, pos-+ℤ-pos}
use lib.ListN.{length, length-map}
use Rattle.laws.specs.Lists.{tab, below, times, sum}
use Rattle.laws.proofs.Lists.{tab_alike, map-tab}
use Rattle.laws.proofs.Orders.{leb_alike}
use Rattle.laws.proofs.Sums.{sum_of_two, small_map, sum_each_once, length_each_once, below_each_once}
use Rattle.grid.specs.declared.Format.{Format}
use Rattle.patterns.specs.Patterns.{sign}
use Rattle.grid.specs.Formats.{step}
use Rattle.grid.specs.Neighbours.{lo, hi}
use Rattle.grid.proofs.Neighbours.{step_positive, lo_not_above}
use Rattle.magnitudes.specs.declared.Mode.TheVariants.{Stochastic}
use Rattle.magnitudes.specs.Modes.{K, u}
use Rattle.magnitudes.proofs.Choices.{u-below}
use Rattle.rounding.specs.Rounded.{rounded}
use Rattle.meaning.specs.Totals.{magnitude_in, signed, number_in, total, answers, rest, chopped, EachOnce, TotalOverAll, TotalInAnyOrder}
use Rattle.meaning.proofs.Shares.{rest_below, shares_below, taken_with, answer_number, answer_finite}

-- ---- words that have each random number once

-- there are 2^r of them
pub each_once_length : (r : ℕ) (words : List ℕ) → EachOnce r words → length words ≡ 2 ^ r
each_once_length r words each =
    sym (length-map words (u r))
    ∙ length_each_once (2 ^ r) (map (u r) words) (small_map (2 ^ r) (u r) (u-below r) words) each.once

-- the numbers below 2^r, in order, are such words
pub each_once_in_order : (r : ℕ) → EachOnce r (below (2 ^ r))
unfolding u
each_once_in_order r = record { once = λ n small. ap (times n) same ∙ below_each_once (2 ^ r) n small }
  where
    same : map (u r) (below (2 ^ r)) ≡ below (2 ^ r)
    same = map-tab (2 ^ r) (λ (i : ℕ). i) (u r) ∙ tab_alike (2 ^ r) (u r) (λ (i : ℕ). i) (λ i h. mod-eq_of_lt h)

-- ---- the sum of the magnitudes

module _ (f : Format) (r a : ℕ) where
  abbrev shares : ℕ
  shares = K r (rest f a) (step f a)

  fewer : shares < 2 ^ r
  fewer = shares_below r (rest f a) (step f a) (rest_below f a)

  -- lo, and a step more from the random number n = 2^r - K on
  abbrev by_number : ℕ → ℕ
  by_number n = cond (leb (2 ^ r - shares) n) (lo f a + step f a) (lo f a)

  -- that is what each random number takes
  taken_by_number : (n : ℕ) → taken_with f r a n ≡ by_number n
  unfolding taken_with hi
  taken_by_number n =
      ap (λ (b : Bool). cond b (lo f a + step f a) (lo f a))
      (leb_alike (2 ^ r) (shares + n) (2 ^ r - shares) n (λ h. omega arith) (λ h. omega (arith, fewer)))

  -- so all of them together take 2^r times lo, and K steps
  taken-sum : sum (tab (2 ^ r) (taken_with f r a)) ≡ chopped f r a
  unfolding chopped
  taken-sum =
      let left : 2 ^ r - (2 ^ r - shares) ≡ shares = omega (arith, fewer) in
      ap sum (tab_alike (2 ^ r) (taken_with f r a) by_number (λ n h. taken_by_number n))
      ∙ sum_of_two (2 ^ r - shares) (lo f a) (step f a) (2 ^ r)
      ∙ ap (λ (k : ℕ). 2 ^ r * lo f a + k * step f a) left

  -- ---- what that is, and how far it is from 2^r times the magnitude

  -- the magnitude is lo and the rest, 2^r times over
  parts : 2 ^ r * lo f a + 2 ^ r * rest f a ≡ 2 ^ r * a
  parts = sym (mul-add (2 ^ r) (lo f a) (rest f a)) ∙ ap (λ (n : ℕ). 2 ^ r * n) (add-sub_of_le (lo_not_above f a))

  -- what is left is 2^r times the magnitude with the digits below the step cleared
  pub chopped_clears : chopped f r a ≡ 2 ^ r * a / step f a * step f a
  unfolding chopped K lo
  chopped_clears =
      let G = step f a in
      let m = 2 ^ r * (a / G) in
      let n = 2 ^ r * rest f a in
      let whole : 2 ^ r * (a / G * G) ≡ m * G = sym (mul_assoc (2 ^ r) (a / G) G) in
      ap (λ (k : ℕ). k + n / G * G) whole
      ∙ sym (add-mul m (n / G) G)
      ∙ ap (λ (k : ℕ). k * G) (sym (mul-add-div_right (step_positive f a) m n))
      ∙ ap (λ (k : ℕ). k / G * G) (ap (λ (k : ℕ). k + n) (sym whole) ∙ parts)

  -- not past it
  chopped_toward_zero : chopped f r a ≤ 2 ^ r * a
  unfolding chopped K
  chopped_toward_zero = omega (arith, parts, div-mul-le_self (2 ^ r * rest f a) (step f a))

  -- less than a step short of it
  chopped_close : 2 ^ r * a < chopped f r a + step f a
  unfolding chopped K
  chopped_close =
      let near : 2 ^ r * rest f a < 2 ^ r * rest f a / step f a * step f a + step f a = lt-div-mul-add (step_positive f a) in
      omega (arith, parts)

  -- and at it where the shares are whole
  chopped_whole : 2 ^ r * rest f a % step f a ≡ 0 → chopped f r a ≡ 2 ^ r * a
  unfolding chopped K
  chopped_whole whole = omega (arith, parts, div-add-mod' (2 ^ r * rest f a) (step f a))

-- ---- the total with its sign

-- magnitudes of one sign are added up
signed-sum : (negative : Bool) (m n : ℕ) → signed negative m +ℤ signed negative n ≡ signed negative (m + n)
unfolding signed
signed-sum true m n = sym (neg_ℤ-+ℤ (pos m) (pos n)) ∙ ap neg_ℤ (pos-+ℤ-pos m n)
signed-sum false m n = pos-+ℤ-pos m n

signed_nothing : (negative : Bool) → signed negative 0 ≡ pos 0
unfolding signed
signed_nothing true = refl
signed_nothing false = refl

-- patterns that stand for magnitudes of one sign, each by a rule of a number that its word has
total-signed :
    (negative : Bool) (pattern key taken : ℕ → ℕ) → ((word : ℕ) → number_in (pattern word) ≡ signed negative (taken (key word)))
    → (words : List ℕ) → total (map pattern words) ≡ signed negative (sum (map taken (map key words)))
unfolding total sum
total-signed negative pattern key taken stands [] = sym (signed_nothing negative)
total-signed negative pattern key taken stands (w ∷ ws) =
    ap₂ (λ (x y : ℤ). x +ℤ y) (stands w) (total-signed negative pattern key taken stands ws)
    ∙ signed-sum negative (taken (key w)) (sum (map taken (map key ws)))

-- ---- demand 3

-- with words that have each random number once, in any order
pub total_in_any_order : TotalInAnyOrder
unfolding answers
total_in_any_order f r x words inside most each =
    let a = magnitude_in x in
    let taken = taken_with f r a in
    let answer : ℕ → ℕ = λ word. rounded f (Stochastic r) word x in
    let small = small_map (2 ^ r) (u r) (u-below r) words in
    record {
      exact =
          total-signed (sign x) answer (u r) taken (answer_number f inside r x most) words
          ∙ ap (signed (sign x)) (sum_each_once (2 ^ r) (map (u r) words) small each.once taken ∙ taken-sum f r a);
      toward_zero = chopped_toward_zero f r a;
      close = chopped_close f r a;
      whole = chopped_whole f r a;
      finite = answer_finite f inside r x most;
    }

-- and with the words from 0 to 2^r - 1
pub total-over_all : TotalOverAll
total-over_all f r x inside most = total_in_any_order f r x (below (2 ^ r)) inside most (each_once_in_order r)
