-- Two lists in turn: how long they are together, what stands where, and two lists that a rule makes. Assumes nothing.
use mathlib.Core.List.{List, [], ◌∷◌}
use mathlib.Core.Path.{◌≡◌, refl, sym, ap, ap₂, ◌∙◌}
use Prim.Native.Nat.{ℕ, zero, suc, ◌*◌, ◌≤◌}
use native.Mathlib.Nat.{suc_inj, suc-ne-zero, le_of_suc-le-suc, not-suc-le-zero}
use native.Mathlib.Omega.{arith}
use lib.ListN.{length, get_or, take}
use Rattle.laws.specs.Lists.{tab}
use Rattle.laws.proofs.Lists.{tab_alike}
use Rattle.jobs.specs.Layout.{in_turn}

-- two places further
two_more : (i : ℕ) → suc i * 2 ≡ suc (suc (i * 2))
two_more i = omega arith

-- they are twice as long
pub length-in_turn : (xs ws : List ℕ) → length ws ≡ length xs → length (in_turn xs ws) ≡ length xs * 2
unfolding in_turn
length-in_turn [] ws e = refl
length-in_turn (x ∷ xs) [] e = absurd (suc-ne-zero (length xs) (sym e))
length-in_turn (x ∷ xs) (w ∷ ws) e = ap (λ (n : ℕ). suc (suc n)) (length-in_turn xs ws (suc_inj e)) ∙ sym (two_more (length xs))

-- the first list's entries stand at the even places,
pub in_turn_first : (xs ws : List ℕ) (i : ℕ) → length ws ≡ length xs → get_or (in_turn xs ws) (i * 2) 0 ≡ get_or xs i 0
unfolding in_turn
in_turn_first [] ws i e = refl
in_turn_first (x ∷ xs) [] i e = absurd (suc-ne-zero (length xs) (sym e))
in_turn_first (x ∷ xs) (w ∷ ws) zero e = refl
in_turn_first (x ∷ xs) (w ∷ ws) (suc i) e =
    ap (λ (n : ℕ). get_or (x ∷ w ∷ in_turn xs ws) n 0) (two_more i) ∙ in_turn_first xs ws i (suc_inj e)

-- and the second's behind them
pub in_turn_second : (xs ws : List ℕ) (i : ℕ) → length ws ≡ length xs → get_or (in_turn xs ws) (suc (i * 2)) 0 ≡ get_or ws i 0
unfolding in_turn
in_turn_second [] [] i e = refl
in_turn_second [] (w ∷ ws) i e = absurd (suc-ne-zero (length ws) e)
in_turn_second (x ∷ xs) [] i e = absurd (suc-ne-zero (length xs) (sym e))
in_turn_second (x ∷ xs) (w ∷ ws) zero e = refl
in_turn_second (x ∷ xs) (w ∷ ws) (suc i) e =
    ap (λ (n : ℕ). get_or (x ∷ w ∷ in_turn xs ws) (suc n) 0) (two_more i) ∙ in_turn_second xs ws i (suc_inj e)

-- ---- lists that a rule makes

-- what the rule says of the even places, in turn with what it says of those behind them, is all that it says
pub in_turn-tab : (n : ℕ) (h : ℕ → ℕ) → in_turn (tab n (λ (i : ℕ). h (i * 2))) (tab n (λ (i : ℕ). h (suc (i * 2)))) ≡ tab (n * 2) h
unfolding in_turn
in_turn-tab zero h = refl
in_turn-tab (suc n) h =
    ap₂ {C = List ℕ} (λ (xs ws : List ℕ). h 0 ∷ h 1 ∷ in_turn xs ws)
    (tab_alike n (λ (i : ℕ). h (suc i * 2)) (λ (i : ℕ). h (suc (suc (i * 2)))) (λ i below. ap h (two_more i)))
    (tab_alike n (λ (i : ℕ). h (suc (suc i * 2))) (λ (i : ℕ). h (suc (suc (suc (i * 2))))) (λ i below. ap (λ (k : ℕ). h (suc k)) (two_more i)))
    ∙ ap (λ (l : List ℕ). h 0 ∷ h 1 ∷ l) (in_turn-tab n (λ (i : ℕ). h (suc (suc i))))
    ∙ ap (λ (k : ℕ). tab k h) (sym (two_more n))

-- a list is what the rule makes that reads its entries,
pub tab_entries : (l : List ℕ) → tab (length l) (λ (i : ℕ). get_or l i 0) ≡ l
tab_entries [] = refl
tab_entries (x ∷ xs) = ap (λ (l : List ℕ). x ∷ l) (tab_entries xs)

-- and the start of every longer one that it makes
pub tab-begins : (l : List ℕ) (n : ℕ) → length l ≤ n → take (length l) (tab n (λ (i : ℕ). get_or l i 0)) ≡ l
tab-begins [] n h = refl
tab-begins (x ∷ xs) zero h = absurd (not-suc-le-zero h)
tab-begins (x ∷ xs) (suc n) h = ap (λ (l : List ℕ). x ∷ l) (tab-begins xs n (le_of_suc-le-suc h))
