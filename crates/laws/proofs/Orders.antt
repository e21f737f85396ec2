-- The cases of a comparison, and the tests of two comparisons that hold together. Assumes nothing.
use mathlib.Core.Bool.{Bool, true, false, not}
use mathlib.Core.Logic.{◌⊎◌, inl, inr}
use mathlib.Core.Path.{◌≡◌, refl, sym, ◌∙◌}
use Prim.Native.Nat.{ℕ, ◌≤◌, ◌<◌}
use native.Mathlib.Nat.{le_of_suc-le-suc, lt_of_not-le, not-le_of_lt}
use lib.Dec.{T, leb, ltb, eqb, ltb→lt, nltb→le}
use borrow.Author.Tests.{leb-true, leb-false, eqb-true, eqb-false, le-leb, lt-leb, eq-eqb, ne_eqb}

-- where n is not below m, m is at most n
pub le_of_not_lt : {m n : ℕ} → (n < m → ⊥) → m ≤ n
le_of_not_lt h = le_of_suc-le-suc (lt_of_not-le h)

-- m is below n, or n is not above m
pub below_or_not : (m n : ℕ) → (m < n) ⊎ (n ≤ m)
below_or_not m n = go (ltb m n) (ltb→lt m n) (nltb→le m n)
  where
    go : (b : Bool) → (T b → m < n) → (T (not b) → n ≤ m) → (m < n) ⊎ (n ≤ m)
    go true below reached = inl (below tt)
    go false below reached = inr (reached tt)

-- two orders that hold together have the same test
pub leb_alike : (a b c d : ℕ) → (a ≤ b → c ≤ d) → (c ≤ d → a ≤ b) → leb a b ≡ leb c d
leb_alike a b c d there back = go (leb a b) refl
  where
    go : (t : Bool) → leb a b ≡ t → leb a b ≡ leb c d
    go true e = e ∙ sym (le-leb c d (there (leb-true a b e)))
    go false e = e ∙ sym (lt-leb c d (lt_of_not-le (λ (g : c ≤ d). not-le_of_lt (leb-false a b e) (back g))))

-- and so do two equations
pub eqb_alike : (a b c d : ℕ) → (a ≡ b → c ≡ d) → (c ≡ d → a ≡ b) → eqb a b ≡ eqb c d
eqb_alike a b c d there back = go (eqb a b) refl
  where
    go : (t : Bool) → eqb a b ≡ t → eqb a b ≡ eqb c d
    go true e = e ∙ sym (eq-eqb c d (there (eqb-true a b e)))
    go false e = e ∙ sym (ne_eqb c d (λ (g : c ≡ d). eqb-false a b e (back g)))
