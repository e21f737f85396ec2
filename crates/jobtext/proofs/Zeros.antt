-- Arrays of zeros, and what is laid over them. Assumes nothing.
use mathlib.Core.Bool.{Bool, true, false}
use mathlib.Core.List.{List, ◌++◌}
use mathlib.Core.Path.{◌≡◌, refl, sym, ap, ◌∙◌}
use Prim.Native.Nat.{ℕ, zero, suc, ◌+◌, ◌-◌, ◌≤◌}
use native.Mathlib.Omega.{arith}
use lib.Dec.{ltb}
use lib.ListN.{length, get_or, drop, replicate, length-replicate, get_or-eq_default, get_or-append}
use lib.Seq.{get_or-append-add, get_or-drop}
use borrow.Author.Tests.{ltb-true, ltb-false}
use Rattle.laws.specs.Lists.{over}
use Rattle.laws.proofs.Overlays.{over-fits}

-- so many zeros
abbrev pub zeros : ℕ → List ℕ
zeros n = replicate n 0

-- a zero stands at every place, and for what is missing
get_or_zeros : (all i : ℕ) → get_or (zeros all) i 0 ≡ 0
get_or_zeros zero i = refl
get_or_zeros (suc all) zero = refl
get_or_zeros (suc all) (suc i) = get_or_zeros all i

-- a list that is laid over zeros reads as it does alone
pub get_or-over_zeros : (l : List ℕ) (all i : ℕ) → length l ≤ all → get_or (over l (zeros all)) i 0 ≡ get_or l i 0
get_or-over_zeros l all i h =
    ap {A = List ℕ} (λ m. get_or m i 0) (over-fits l (zeros all) (omega (arith, length-replicate {A = ℕ} all 0))) ∙ go (ltb i (length l)) refl
  where
    rest : List ℕ
    rest = drop (length l) (zeros all)

    go : (b : Bool) → ltb i (length l) ≡ b → get_or (l ++ drop (length l) (zeros all)) i 0 ≡ get_or l i 0
    go true e = get_or-append l rest 0 i (ltb-true i (length l) e)
    go false e =
        let past = ltb-false i (length l) e in
        ap (λ (k : ℕ). get_or (l ++ rest) k 0) (split i (length l) past)
        ∙ get_or-append-add l rest (i - length l) 0
        ∙ get_or-drop (length l) (zeros all) (i - length l) 0
        ∙ get_or_zeros all (length l + (i - length l))
        ∙ sym (get_or-eq_default l 0 past)
      where
        split : (i n : ℕ) → n ≤ i → i ≡ n + (i - n)
        split i n h = omega arith
