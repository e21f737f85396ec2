-- Values that are stored one after the other from the start of a list: they lie over it, and stand where they were put.
-- Assumes nothing.
use mathlib.Core.List.{List, [], ◌∷◌, ◌++◌}
use mathlib.Core.Path.{◌≡◌, sym, ap, ◌∙◌}
use Prim.Native.Nat.{ℕ, suc, ◌+◌, ◌≤◌, ◌<◌}
use native.Mathlib.Nat.{zero-add}
use native.Mathlib.Omega.{arith}
use lib.ListN.{length, get_or, set}
use lib.Seq.{sets, sets-eq}
use Rattle.laws.specs.Lists.{over}
use Rattle.laws.proofs.Overlays.{over-fits, get_or-over}

-- two runs of stores are one
pub stored_in_two : (a b l : List ℕ) (i : ℕ) → sets (sets l i a) (i + length a) b ≡ sets l i (a ++ b)
stored_in_two [] b l i = ap (λ (k : ℕ). sets l k b) (omega arith)
stored_in_two (x ∷ a) b l i =
    let next : i + suc (length a) ≡ suc i + length a = omega arith in
    ap (λ (k : ℕ). sets (sets (set l i x) (suc i) a) k b) next ∙ stored_in_two a b (set l i x) (suc i)

module _ (a l : List ℕ) (fit : length a ≤ length l) where
  -- a run from the start lies over the list
  pub stored_over : sets l 0 a ≡ over a l
  stored_over = rw zero-add at (sets-eq a l 0 (omega arith)) ∙ sym (over-fits a l fit)

  -- and each value stands at its place
  pub stored_at : (k : ℕ) → k < length a → get_or (sets l 0 a) k 0 ≡ get_or a k 0
  stored_at k within = ap (λ (m : List ℕ). get_or m k 0) stored_over ∙ get_or-over a l fit k within
