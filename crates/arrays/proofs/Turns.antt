-- Rounding place after place: the answer at a place, a turn, and the end. Assumes nothing.
use mathlib.Core.List.{List}
use mathlib.Core.Path.{◌≡◌, sym, ap, ap₂, ◌∙◌, subst}
use Prim.Native.Nat.{ℕ, ◌+◌, ◌^◌, ◌≤◌, ◌<◌}
use native.Mathlib.Nat.{lt_of_lt_of_le, le_antisymm}
use lib.ListN.{length, get_or, set, length-set}
use Rattle.laws.specs.Fills.{FilledTo}
use Rattle.laws.proofs.Fills.{filled_none, filled_more, filled_fewer, filled_all}
use Rattle.magnitudes.specs.declared.Mode.{Mode}
use Rattle.magnitudes.specs.declared.Settings.{Settings}
use Rattle.rounding.specs.BySettings.{rounded_by}
use Rattle.sweeps.specs.Rules.{field_of, place_table}
use Rattle.sweeps.specs.Rows.{row_table, by_row}
use Rattle.sweeps.proofs.RowAnswers.{row_is_rounded}
use Rattle.sweeps.specs.Stretches.{stretch_end}
use Rattle.sweeps.proofs.StretchEnds.{stretch_within}
use Rattle.arrays.specs.Loops.{rounded_by_at, rounded_all_by}

-- a store leaves a list as long as it was
pub stored_long : (out : List ℕ) (i y n : ℕ) → length out ≡ n → (after : List ℕ) → after ≡ set out i y → length after ≡ n
stored_long out i y n long after stored = ap length stored ∙ length-set out i y ∙ long

-- a stretch does not end past the last place
pub ends_within : (from n to m : ℕ) → n ≡ m → to ≡ stretch_end from n → to ≤ m
ends_within from n to m many ends = subst (λ (k : ℕ). to ≤ k) many (stretch_within from n to ends)

-- ---- the answer at a place

module _ (s : Settings) (words xs : List ℕ) (i w : ℕ) (given : w ≡ get_or words i 0) (x : ℕ) (read : x ≡ get_or xs i 0) (y : ℕ) where
  -- by the single rounding,
  pub rounded_there : y ≡ rounded_by s w x → y ≡ rounded_by_at s words xs i
  unfolding rounded_by_at
  rounded_there is = is ∙ ap₂ (rounded_by s) given read

  -- and by the tables where they have a place for its pattern
  pub looked_up_there : x < 2 ^ 64 → (mode : Mode) → mode ≡ s.mode → (places rows : List ℕ) → places ≡ place_table s → rows ≡ row_table s
      → (place : ℕ) → place ≡ get_or places (field_of x) 0 → place < 64 → y ≡ by_row mode rows place w x → y ≡ rounded_by_at s words xs i
  looked_up_there fits mode named places rows ps rs place looked below is =
      rounded_there (row_is_rounded s w x fits mode named places rows ps rs place looked below y is)

-- ---- place after place

module _ (s : Settings) (words xs out : List ℕ) where
  -- at first no place is rounded
  pub nothing_rounded : FilledTo (rounded_by_at s words xs) 0 out
  nothing_rounded = filled_none (rounded_by_at s words xs) out

  module _ (i : ℕ) (long : length out ≡ length xs) (filled : FilledTo (rounded_by_at s words xs) i out) where
    -- a turn stores the next place's answer,
    pub one_more_made : (to : ℕ) → i < to → to ≤ length xs → (y : ℕ) → y ≡ rounded_by_at s words xs i → (after : List ℕ) → after ≡ set out i y
        → FilledTo (rounded_by_at s words xs) (i + 1) after
    one_more_made to within ends y is after stored =
        subst (FilledTo (rounded_by_at s words xs) (i + 1)) (sym stored)
        (filled_more (rounded_by_at s words xs) i out y is (subst (λ (n : ℕ). i < n) (sym long) (lt_of_lt_of_le within ends)) filled)

    -- as the single rounding gives it
    pub one_more_rounded : (to : ℕ) → i < to → to ≤ length xs → (w : ℕ) → w ≡ get_or words i 0 → (x : ℕ) → x ≡ get_or xs i 0
        → (y : ℕ) → y ≡ rounded_by s w x → (after : List ℕ) → after ≡ set out i y → FilledTo (rounded_by_at s words xs) (i + 1) after
    one_more_rounded to within ends w given x read y is = one_more_made to within ends y (rounded_there s words xs i w given x read y is)

    -- what is rounded up to a place is so up to any before it
    pub fewer_rounded : (to : ℕ) → to ≤ i → FilledTo (rounded_by_at s words xs) to out
    fewer_rounded to reached = filled_fewer (rounded_by_at s words xs) i to out reached filled

    -- and up to the last it is all
    pub all_rounded : (n : ℕ) → n ≡ length xs → n ≤ i → i ≤ length xs → out ≡ rounded_all_by s words xs
    unfolding rounded_all_by
    all_rounded n many reached within =
        filled_all (rounded_by_at s words xs) (length xs) out long (subst (λ (n : ℕ). FilledTo (rounded_by_at s words xs) n out) (le_antisymm within (subst (λ (m : ℕ). m ≤ i) many reached)) filled)
