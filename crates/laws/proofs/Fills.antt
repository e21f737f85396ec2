-- Filling a list, place after place: the start, a turn, and the end. Assumes nothing.
use mathlib.Core.List.{List}
use mathlib.Core.Path.{◌≡◌, sym, ◌∙◌, subst}
use Prim.Native.Nat.{ℕ, ◌+◌, ◌≤◌, ◌<◌}
use native.Mathlib.Nat.{not-suc-le-zero, lt_irrefl, lt_of_lt_of_le}
use lib.ListN.{length, get_or, set}
use borrow.Author.Count.{below_more}
use lib.Seq.{get_or-set_same, get_or-set_other, ext_get_or}
use Rattle.laws.specs.Lists.{tab}
use Rattle.laws.specs.Fills.{FilledTo}
use Rattle.laws.proofs.Lists.{length-tab, get_or-tab}

module _ (g : ℕ → ℕ) where
  -- at first no place is
  pub filled_none : (l : List ℕ) → FilledTo g 0 l
  filled_none l = record { holds = λ k h. absurd (not-suc-le-zero h) }

  -- a turn stores what the rule says of the next place
  pub filled_more : (i : ℕ) (l : List ℕ) (y : ℕ) → y ≡ g i → i < length l → FilledTo g i l → FilledTo g (i + 1) (set l i y)
  filled_more i l y says within filled = record { holds = below_more (λ (k : ℕ). get_or (set l i y) k 0 ≡ g k) i earlier this }
    where
      earlier : (k : ℕ) → k < i → get_or (set l i y) k 0 ≡ g k
      earlier k h = get_or-set_other l i k y 0 (λ (e : k ≡ i). lt_irrefl i (subst (λ (t : ℕ). t < i) e h)) ∙ filled.holds k h

      this : get_or (set l i y) i 0 ≡ g i
      this = get_or-set_same l i y 0 within ∙ says

  -- which leaves those before it
  pub filled-kept : (i m : ℕ) (l : List ℕ) (y : ℕ) → m ≤ i → FilledTo g m l → FilledTo g m (set l i y)
  filled-kept i m l y before filled =
      record {
        holds =
            λ k h.
            get_or-set_other l i k y 0 (λ (e : k ≡ i). lt_irrefl i (subst (λ (t : ℕ). t < i) e (lt_of_lt_of_le h before))) ∙ filled.holds k h;
      }

  -- where so many places are filled, fewer are too
  pub filled_fewer : (i m : ℕ) (l : List ℕ) → m ≤ i → FilledTo g i l → FilledTo g m l
  filled_fewer i m l fewer filled = record { holds = λ k h. filled.holds k (lt_of_lt_of_le h fewer) }

  -- a list that is filled to its end is the one that the rule makes
  pub filled_all : (n : ℕ) (l : List ℕ) → length l ≡ n → FilledTo g n l → l ≡ tab n g
  filled_all n l long filled = ext_get_or 0 l (tab n g) (long ∙ sym (length-tab n g)) same
    where
      same : (i : ℕ) → i < length l → get_or l i 0 ≡ get_or (tab n g) i 0
      same i h =
          let below = subst (λ (t : ℕ). i < t) long h in
          filled.holds i below ∙ sym (get_or-tab n g i 0 below)
