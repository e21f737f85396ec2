-- The first lines of a text, and of the text cut short: lines that the cut does not reach stay as they were. Assumes nothing.
use mathlib.Core.Bool.{Bool, true, false, cond}
use mathlib.Core.List.{List, [], ◌∷◌}
use mathlib.Core.Path.{◌≡◌, refl, ap, subst, subst⁻¹}
use Prim.Native.Nat.{ℕ, zero, suc, ◌+◌, ◌≤◌, zero-le}
use native.Mathlib.Nat.{le_of_suc-le-suc, not-suc-le-zero}
use native.Mathlib.Omega.{arith}
use lib.Dec.{eqb}
use lib.ListN.{length, take, drop, length-append, take-append-drop}
use Rattle.laws.specs.Lists.{times}
use Rattle.laws.proofs.Sums.{times-append}
use Rattle.lines.specs.Lines.{line_feed}
use Rattle.jobs.specs.BadLines.{first_lines}
use Rattle.jobs.proofs.FirstLines.{times_cons, first_front}

-- what stands behind the first byte in the first lines, by whether that byte ends a line
abbrev behind : ℕ → List ℕ → Bool → List ℕ
behind k s ends = cond ends (first_lines k s) (first_lines (suc k) s)

-- how many line feeds there are with the first byte, likewise
abbrev ended : List ℕ → Bool → ℕ
ended s ends = cond ends 1 0 + times line_feed s

-- the first lines are no longer than the text
pub length-first_lines : (k : ℕ) (s : List ℕ) → length (first_lines k s) ≤ length s
length-first_lines k s =
    omega (
      arith,
      length-append (first_lines k s) (drop (length (first_lines k s)) s),
      ap (λ (l : List ℕ). length l) (first_front k s),
    )

-- ---- a text that is cut short

-- no line is ended in it that was not ended before
pub times_cut : (m : ℕ) (s : List ℕ) → times line_feed (take m s) ≤ times line_feed s
times_cut m s =
    omega (
      arith,
      times-append line_feed (take m s) (drop m s),
      ap (λ (l : List ℕ). times line_feed l) (take-append-drop m s),
    )

-- first lines that take no more bytes than are left stay as they were,
pub cut_keeps_lines : (k m : ℕ) (s : List ℕ) → length (first_lines k s) ≤ m → first_lines k (take m s) ≡ first_lines k s
unfolding first_lines
cut_keeps_lines zero m s h = refl
cut_keeps_lines (suc k) zero [] h = refl
cut_keeps_lines (suc k) (suc m) [] h = refl
cut_keeps_lines (suc k) zero (b ∷ s) h = absurd (not-suc-le-zero h)
cut_keeps_lines (suc k) (suc m) (b ∷ s) h =
    ap (λ (r : List ℕ). b ∷ r) (go (eqb b line_feed) (cut_keeps_lines k m s) (cut_keeps_lines (suc k) m s) (le_of_suc-le-suc h))
  where
    go : (ends : Bool) → (length (first_lines k s) ≤ m → first_lines k (take m s) ≡ first_lines k s)
        → (length (first_lines (suc k) s) ≤ m → first_lines (suc k) (take m s) ≡ first_lines (suc k) s)
        → length (behind k s ends) ≤ m → behind k (take m s) ends ≡ behind k s ends
    go true next same = next
    go false next same = same

-- and those of them that were ended are so still;
pub cut_keeps_ends : (k m : ℕ) (s : List ℕ) → length (first_lines k s) ≤ m → k ≤ times line_feed s → k ≤ times line_feed (take m s)
unfolding first_lines times
cut_keeps_ends zero m s h e = zero-le
cut_keeps_ends (suc k) m [] h e = absurd (not-suc-le-zero e)
cut_keeps_ends (suc k) zero (b ∷ s) h e = absurd (not-suc-le-zero h)
cut_keeps_ends (suc k) (suc m) (b ∷ s) h e =
    subst⁻¹ (λ (n : ℕ). suc k ≤ n) (times_cons b (take m s))
    (go (eqb b line_feed) (cut_keeps_ends k m s) (cut_keeps_ends (suc k) m s) (le_of_suc-le-suc h) (subst (λ (n : ℕ). suc k ≤ n) (times_cons b s) e))
  where
    go : (ends : Bool) → (length (first_lines k s) ≤ m → k ≤ times line_feed s → k ≤ times line_feed (take m s))
        → (length (first_lines (suc k) s) ≤ m → suc k ≤ times line_feed s → suc k ≤ times line_feed (take m s))
        → length (behind k s ends) ≤ m → suc k ≤ ended s ends → suc k ≤ ended (take m s) ends
    go true next same short e = omega (arith, next short (omega arith))
    go false next same short e = omega (arith, same short (omega arith))

-- and lines that are ended in what is left are those that were there before
pub ended_lines_kept : (k m : ℕ) (s : List ℕ) → k ≤ times line_feed (take m s) → first_lines k (take m s) ≡ first_lines k s
unfolding first_lines times
ended_lines_kept zero m s e = refl
ended_lines_kept (suc k) zero s e = absurd (not-suc-le-zero e)
ended_lines_kept (suc k) (suc m) [] e = refl
ended_lines_kept (suc k) (suc m) (b ∷ s) e =
    ap (λ (r : List ℕ). b ∷ r)
    (go (eqb b line_feed) (ended_lines_kept k m s) (ended_lines_kept (suc k) m s) (subst (λ (n : ℕ). suc k ≤ n) (times_cons b (take m s)) e))
  where
    go : (ends : Bool) → (k ≤ times line_feed (take m s) → first_lines k (take m s) ≡ first_lines k s)
        → (suc k ≤ times line_feed (take m s) → first_lines (suc k) (take m s) ≡ first_lines (suc k) s)
        → suc k ≤ ended (take m s) ends → behind k (take m s) ends ≡ behind k s ends
    go true next same e = next (omega arith)
    go false next same e = same (omega arith)
