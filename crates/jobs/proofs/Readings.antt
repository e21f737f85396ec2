-- What a reading says: that all lines are read, or which line is the next. Assumes nothing.
use mathlib.Core.Bool.{Bool, true, false, cond, ◌&&◌}
use mathlib.Core.List.{List}
use mathlib.Core.Path.{◌≡◌, refl, sym, ap, ap₂, ◌∙◌}
use Prim.Native.Nat.{ℕ, suc, ◌+◌}
use lib.Dec.{eqb}
use lib.ListN.{length}
use borrow.Author.Tests.{eqb-true, eq-eqb}
use Rattle.std.specs.Prelude.{Ok}
use Rattle.laws.proofs.Tests.{and_left, and_right}
use Rattle.jobs.specs.declared.BadLine.{BadLine}
use Rattle.jobs.specs.Reading.{heads_in, lines_in, values_in, used_in, bad_at, reading}
use Rattle.jobs.proofs.Whole.{lines_kept}

-- every line is read and nothing is left: the text is sound,
pub sound_of : (s : List ℕ) → length (values_in s) ≡ 6 + lines_in (values_in s) → used_in s ≡ length s → reading s ≡ Ok tt
unfolding reading
sound_of s all whole =
    ap₂ (λ (a b : Bool). cond (a && b) (Ok tt) (bad_at (suc (length (values_in s)))))
    (eq-eqb (length (values_in s)) (6 + lines_in (heads_in s).values) (all ∙ ap (λ (n : ℕ). 6 + n) (lines_kept s)))
    (eq-eqb (used_in s) (length s) whole)

-- where it is sound, both tests held,
sound_tests : (s : List ℕ) → reading s ≡ Ok tt → (eqb (length (values_in s)) (6 + lines_in (heads_in s).values) && eqb (used_in s) (length s)) ≡ true
unfolding reading
sound_tests s = go (eqb (length (values_in s)) (6 + lines_in (heads_in s).values) && eqb (used_in s) (length s))
  where
    go : (t : Bool) → cond t (Ok tt) (bad_at (suc (length (values_in s)))) ≡ Ok tt → t ≡ true
    go true e = refl
    go false e = cc

-- so every line is read,
pub sound_all : (s : List ℕ) → reading s ≡ Ok tt → length (values_in s) ≡ 6 + lines_in (values_in s)
sound_all s sound =
    eqb-true (length (values_in s)) (6 + lines_in (heads_in s).values)
    (and_left (eqb (length (values_in s)) (6 + lines_in (heads_in s).values)) (eqb (used_in s) (length s)) (sound_tests s sound))
    ∙ sym (ap (λ (n : ℕ). 6 + n) (lines_kept s))

-- and nothing is left
pub sound_whole : (s : List ℕ) → reading s ≡ Ok tt → used_in s ≡ length s
sound_whole s sound =
    eqb-true (used_in s) (length s)
    (and_right (eqb (length (values_in s)) (6 + lines_in (heads_in s).values)) (eqb (used_in s) (length s)) (sound_tests s sound))

-- a line is named by its number
pub same_line : (m k : ℕ) → bad_at m ≡ bad_at k → m ≡ k
same_line m k e = let same : ◌≡◌ {A = BadLine} (record { line = m }) (record { line = k }) = cc e in ap (λ (b : BadLine). b.line) same

-- a line that is named is the one behind those that are read
pub named : (s : List ℕ) (k : ℕ) → reading s ≡ bad_at k → k ≡ suc (length (values_in s))
unfolding reading
named s k = go (eqb (length (values_in s)) (6 + lines_in (heads_in s).values) && eqb (used_in s) (length s))
  where
    go : (t : Bool) → cond t (Ok tt) (bad_at (suc (length (values_in s)))) ≡ bad_at k → k ≡ suc (length (values_in s))
    go true e = cc
    go false e = sym (same_line (suc (length (values_in s))) k e)
