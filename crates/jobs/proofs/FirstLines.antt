-- The first lines of any text, and how many line feeds they have. Assumes nothing.
use mathlib.Core.Bool.{Bool, true, false, cond}
use mathlib.Core.List.{List, [], ◌∷◌, ◌++◌}
use mathlib.Core.Path.{◌≡◌, refl, sym, ap, ◌∙◌, subst}
use Prim.Native.Nat.{ℕ, zero, suc, ◌+◌, ◌≤◌}
use native.Mathlib.Nat.{le_of_suc-le-suc, not-suc-le-zero}
use native.Mathlib.Omega.{arith}
use lib.Dec.{eqb}
use lib.ListN.{length, drop}
use Rattle.laws.specs.Lists.{times}
use Rattle.laws.proofs.Orders.{eqb_alike}
use Rattle.laws.proofs.Sums.{times-append}
use Rattle.lines.specs.Lines.{line_feed}
use Rattle.jobs.specs.BadLines.{first_lines}

-- ---- line feeds

-- how many a byte is
abbrev feed : ℕ → ℕ
feed b = cond (eqb b line_feed) 1 0

-- those of a byte and of the text behind it
pub times_cons : (b : ℕ) (s : List ℕ) → times line_feed (b ∷ s) ≡ feed b + times line_feed s
unfolding times
times_cons b s = ap (λ (t : Bool). cond t 1 0 + times line_feed s) (eqb_alike line_feed b b line_feed (λ e. sym e) (λ e. sym e))

-- ---- the first lines

-- a text begins with its first lines
pub first_front : (k : ℕ) (s : List ℕ) → first_lines k s ++ drop (length (first_lines k s)) s ≡ s
unfolding first_lines
first_front zero s = refl
first_front (suc k) [] = refl
first_front (suc k) (b ∷ s) = ap (λ (l : List ℕ). b ∷ l) (go (eqb b line_feed) (first_front k s) (first_front (suc k) s))
  where
    go : (t : Bool) → first_lines k s ++ drop (length (first_lines k s)) s ≡ s → first_lines (suc k) s ++ drop (length (first_lines (suc k) s)) s ≡ s
        → cond t (first_lines k s) (first_lines (suc k) s) ++ drop (length (cond t (first_lines k s) (first_lines (suc k) s))) s ≡ s
    go true ended going = ended
    go false ended going = going

-- they have no more line feeds than the text,
pub first_fewer : (k : ℕ) (s : List ℕ) → times line_feed (first_lines k s) ≤ times line_feed s
first_fewer k s =
    omega (
      arith,
      times-append line_feed (first_lines k s) (drop (length (first_lines k s)) s),
      ap (λ (l : List ℕ). times line_feed l) (first_front k s),
    )

-- and as many as they are lines, where the text has so many
pub first_times : (k : ℕ) (s : List ℕ) → k ≤ times line_feed s → times line_feed (first_lines k s) ≡ k
unfolding first_lines times
first_times zero s h = refl
first_times (suc k) [] h = absurd (not-suc-le-zero h)
first_times (suc k) (b ∷ s) h =
    times_cons b (cond (eqb b line_feed) (first_lines k s) (first_lines (suc k) s))
    ∙ go (eqb b line_feed) (subst (λ (n : ℕ). suc k ≤ n) (times_cons b s) h) (first_times k s) (first_times (suc k) s)
  where
    go : (t : Bool) → suc k ≤ cond t 1 0 + times line_feed s → (k ≤ times line_feed s → times line_feed (first_lines k s) ≡ k)
        → (suc k ≤ times line_feed s → times line_feed (first_lines (suc k) s) ≡ suc k)
        → cond t 1 0 + times line_feed (cond t (first_lines k s) (first_lines (suc k) s)) ≡ suc k
    go true many ended going = omega (arith, ended (omega arith))
    go false many ended going = omega (arith, going (omega arith))

-- the first lines of more lines are the text's own
pub first_first : (k m : ℕ) (s : List ℕ) → k ≤ m → first_lines k (first_lines m s) ≡ first_lines k s
unfolding first_lines
first_first zero m s h = refl
first_first (suc k) zero s h = absurd (not-suc-le-zero h)
first_first (suc k) (suc m) [] h = refl
first_first (suc k) (suc m) (b ∷ s) h =
    ap (λ (l : List ℕ). b ∷ l) (go (eqb b line_feed) (first_first k m s (le_of_suc-le-suc h)) (first_first (suc k) (suc m) s h))
  where
    more : Bool → List ℕ
    more t = cond t (first_lines m s) (first_lines (suc m) s)

    go : (t : Bool) → first_lines k (first_lines m s) ≡ first_lines k s → first_lines (suc k) (first_lines (suc m) s) ≡ first_lines (suc k) s
        → cond t (first_lines k (more t)) (first_lines (suc k) (more t)) ≡ cond t (first_lines k s) (first_lines (suc k) s)
    go true ended going = ended
    go false ended going = going

-- ---- a text with no line feed, and then one

-- what holds none begins with none,
no_feed_head : (b : ℕ) (s : List ℕ) → times line_feed (b ∷ s) ≡ 0 → eqb b line_feed ≡ false
no_feed_head b s none = go (eqb b line_feed) (sym (times_cons b s) ∙ none)
  where
    go : (t : Bool) → cond t 1 0 + times line_feed s ≡ 0 → t ≡ false
    go true e = absurd (omega arith)
    go false e = refl

-- and goes on with none
no_feed_tail : (b : ℕ) (s : List ℕ) → times line_feed (b ∷ s) ≡ 0 → times line_feed s ≡ 0
no_feed_tail b s none = omega (arith, times_cons b s)

-- the first lines are that one, and the first of those behind it
pub first_over : (k : ℕ) (a s : List ℕ) → times line_feed a ≡ 0 → first_lines (suc k) (a ++ (line_feed ∷ s)) ≡ a ++ (line_feed ∷ first_lines k s)
unfolding first_lines
first_over k [] s none = refl
first_over k (b ∷ a) s none =
    ap (λ (t : Bool). b ∷ cond t (first_lines k (a ++ (line_feed ∷ s))) (first_lines (suc k) (a ++ (line_feed ∷ s)))) (no_feed_head b a none)
    ∙ ap (λ (l : List ℕ). b ∷ l) (first_over k a s (no_feed_tail b a none))
