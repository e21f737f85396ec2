-- The digits that a text begins with: how many there are, `run`, and what they are worth, `value`; and the loop that reads them, in
-- the forms in which the code comes to it. Assumes nothing.
use mathlib.Core.Bool.{Bool, true, false, cond}
use mathlib.Core.List.{List, [], ◌∷◌}
use mathlib.Core.Path.{◌≡◌, refl, sym, ap, ap₂, ◌∙◌, subst}
use Prim.Native.Nat.{ℕ, zero, suc, ◌+◌, ◌-◌, ◌*◌, ◌^◌, ◌≤◌, ◌<◌, min}
use native.Mathlib.Nat.{zero-add, sub-zero, pow-zero, pow-suc, pow-le-pow_left, pow-le-pow_right, le_trans, lt_of_lt_of_le, lt_of_le_of_lt}
use native.Mathlib.Numerals.{add-one}
use native.Mathlib.Omega.{arith}
use lib.Arith.{digits_lt}
use lib.Dec.{lit<, ltb}
use lib.ListN.{length, get_or, take, drop, length-drop}
use lib.Seq.{length-take-le, get_or-take}
use mir.Val.{Fits}
use mir.Syntax.{w64}
use borrow.Author.Tests.{ltb-true, ltb-false, lt-ltb, le-ltb}
use Rattle.std.specs.Prelude.{Option, Some, None}
use Rattle.std.proofs.lemmas.Option.{none-some, cond_some}
use Rattle.lines.specs.Reading.{worth, digit_in, run, value}
use Rattle.lines.proofs.Numerals.{value_last}
use Rattle.lines.proofs.Spans.{run_within}
use Rattle.lines.proofs.Texts.{drop_next, take_next}

-- ---- how many digits there are

-- none where the first byte is no digit in the base
run_other : (base most b : ℕ) (s : List ℕ) → base ≤ worth b → run base most (b ∷ s) ≡ 0
unfolding run
run_other base zero b s high = refl
run_other base (suc most) b s high = simp (le-ltb (worth b) base high)

-- one more than behind the first byte where that is one
run_first : (base most b : ℕ) (s : List ℕ) → worth b < base → run base (suc most) (b ∷ s) ≡ suc (run base most s)
unfolding run
run_first base most b s low = simp (lt-ltb (worth b) base low)

-- no more than are asked for
run_most : (base most : ℕ) (s : List ℕ) → run base most s ≤ most
unfolding run
run_most base zero s = omega arith
run_most base (suc most) [] = omega arith
run_most base (suc most) (b ∷ s) = go (ltb (worth b) base) (run_most base most s)
  where
    go : (x : Bool) → run base most s ≤ most → cond x (suc (run base most s)) 0 ≤ suc most
    go true later = omega arith
    go false later = omega arith

-- ---- the digit that a byte is

module _ (base b : ℕ) where
  -- where it is none, the byte is worth too much;
  none-high : digit_in base b ≡ None → base ≤ worth b
  unfolding digit_in
  none-high none = go (ltb (worth b) base) refl none
    where
      go : (x : Bool) → ltb (worth b) base ≡ x → cond x (Some (worth b)) None ≡ None → base ≤ worth b
      go true e f = absurd (none-some (worth b) (sym f))
      go false e f = ltb-false (worth b) base e

  -- and else it is what the byte is worth,
  some-worth : (d : ℕ) → digit_in base b ≡ Some d → d ≡ worth b
  unfolding digit_in
  some-worth d some = sym (cond_some (ltb (worth b) base) (worth b) d some).1

  -- which is a digit in the base
  some-low : (d : ℕ) → digit_in base b ≡ Some d → worth b < base
  unfolding digit_in
  some-low d some = ltb-true (worth b) base (cond_some (ltb (worth b) base) (worth b) d some).0

-- ---- the loop that reads them: i digits are read, and more may follow

module _ (base most : ℕ) (s : List ℕ) where
  -- at first none is read, and 0 is below the power with no factor;
  pub none_read : run base most s ≡ 0 + run base (most - 0) (drop 0 s)
  none_read = simp (zero-add, sub-zero)

  pub none-worth : 0 ≡ value base 0 (take 0 s)
  unfolding value
  none-worth = refl

  pub none_below : 0 < base ^ 0
  none_below = subst (λ (n : ℕ). 0 < n) (sym (pow-zero base)) (lit< tt)

  module _ (count : ℕ) (counted : run base most s ≡ count + run base (most - count) (drop count s)) where
    module _ (next : ℕ) (is : next ≡ worth (get_or s count 0)) (within : count ≤ length s) (not-ended : count ≡ length s → ⊥) where
      -- where `count` digits are read and the next byte is no digit in the base, all are read
      pub digits_read_lem : base ≤ next → count ≡ run base most s
      digits_read_lem high =
          let over : run base (most - count) (drop count s) ≡ 0 =
          ap (run base (most - count)) (drop_next s count (omega arith))
          ∙ run_other base (most - count) (get_or s count 0) (drop (count + 1) s) (subst (λ (d : ℕ). base ≤ d) is high) in
          omega arith

  module _ (n : ℕ) (least : n ≡ min (length s) most) where
    -- the bytes that are looked at
    looked : length (take n s) ≡ n
    looked = length-take-le n s (omega arith)

    module _ (i : ℕ) (read : run base most s ≡ i + run base (most - i) (drop i s)) where
      -- behind them no digit is read
      pub all_looked : length (take n s) ≤ i → i ≤ length (take n s) → length (take n s) ≡ run base most s
      all_looked ended within =
          omega (arith, looked, run_within base (most - i) (drop i s), run_most base (most - i) (drop i s), length-drop i s)

      module _ (within : i < length (take n s)) (r : Option ℕ) (is : r ≡ digit_in base (get_or (take n s) i 0)) where
        in_text : i < length s
        in_text = omega (arith, looked)

        -- the next byte is the first that is left
        same_byte : get_or (take n s) i 0 ≡ get_or s i 0
        same_byte = get_or-take n s i 0 (omega (arith, looked))

        here : drop i s ≡ get_or s i 0 ∷ drop (i + 1) s
        here = drop_next s i in_text

        read_is : r ≡ digit_in base (get_or s i 0)
        read_is = is ∙ ap (digit_in base) same_byte

        -- where it is no digit in the base, all are read
        pub no_digit_read : r ≡ None → i ≡ run base most s
        no_digit_read none =
            let over : run base (most - i) (drop i s) ≡ 0 =
            ap (run base (most - i)) here
            ∙ run_other base (most - i) (get_or s i 0) (drop (i + 1) s) (none-high base (get_or s i 0) (sym read_is ∙ none)) in
            omega arith

        module _ (next : ℕ) (some : r ≡ Some next) where
          -- and otherwise it is one more,
          pub one_more_read : run base most s ≡ i + 1 + run base (most - (i + 1)) (drop (i + 1) s)
          one_more_read =
              let left : most - i ≡ suc (most - (i + 1)) = omega (arith, looked) in
              let one =
              ap₂ (run base) left here
              ∙ run_first base (most - (i + 1)) (get_or s i 0) (drop (i + 1) s) (some-low base (get_or s i 0) next (sym read_is ∙ some)) in
              omega arith

          -- which makes what is read worth this,
          pub one_more_worth : (v : ℕ) → v ≡ value base 0 (take i s) → v * base + next ≡ value base 0 (take (i + 1) s)
          one_more_worth v worths =
              ap₂ (λ (m d : ℕ). m * base + d) worths (some-worth base (get_or s i 0) next (sym read_is ∙ some))
              ∙ sym (value_last base 0 (take i s) (get_or s i 0))
              ∙ ap (value base 0) (sym (take_next s i in_text))

          -- and is below the base
          pub next_below : next < base
          next_below =
              subst (λ (d : ℕ). d < base) (sym (some-worth base (get_or s i 0) next (sym read_is ∙ some)))
              (some-low base (get_or s i 0) next (sym read_is ∙ some))

          pub looked_below : i < most
          looked_below = omega (arith, looked)

-- ---- what is read fits a word

module _ (base count n next : ℕ) (small : n < base ^ count) (low : next < base) where
  -- k digits in the base are below its k-th power
  pub one_more_below : n * base + next < base ^ (count + 1)
  one_more_below =
      subst (λ (x : ℕ). n * base + next < x) (sym (ap (λ (k : ℕ). base ^ k) (add-one count) ∙ pow-suc base count)) (digits_lt small low)

  module _ (most : ℕ) (b16 : base ≤ 16) (m16 : most ≤ 16) (below : count < most) where
    -- 16 digits in base 16 make a word of 64 bits
    sum-word : n * base + next < 2 ^ 64
    sum-word =
        lt_of_lt_of_le one_more_below
        (le_trans (pow-le-pow_left b16 (count + 1)) (pow-le-pow_right {n = 16} (lit< tt) {i = count + 1} {j = 16} (omega arith)))

    pub sum_fits : Fits w64 (n * base + next)
    sum_fits = record { fits = sum-word }

    pub product_fits : Fits w64 (n * base)
    product_fits = record { fits = lt_of_le_of_lt (omega arith) sum-word }
