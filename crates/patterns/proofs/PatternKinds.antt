-- What a pattern is, by the tests that the code makes of its magnitude, in their order, and what its
-- being finite, or no NaN, says of the magnitude. Assumes nothing.
use mathlib.Core.Bool.{Bool, true, false, false≢true}
use mathlib.Core.Logic.{◌⊎◌, inl, inr}
use mathlib.Core.Path.{◌≡◌, refl, sym, ap, ◌∙◌, subst}
use Prim.Native.Nat.{ℕ, ◌≤◌, ◌<◌, zero-le}
use native.Mathlib.Nat.{le_of_lt, lt_irrefl, lt_of_le_of_lt, lt_of_not-le, ne_of_gt, eq-or-lt_of_le}
use lib.Arith.{le-zero}
use borrow.Author.Tests.{lt-ltb, le-ltb, eq-eqb, ne_eqb}
use Rattle.laws.proofs.Orders.{le_of_not_lt}
use Rattle.patterns.specs.declared.Kind.{Kind}
use Rattle.patterns.specs.declared.Kind.TheVariants.{Zero, Finite, Infinity, NaN}
use Rattle.patterns.specs.Patterns.{mag, infinity, kind_of}

module _ (x m : ℕ) (e : m ≡ mag x) where
  pub kind_zero : m ≡ 0 → Zero ≡ kind_of x
  unfolding kind_of
  kind_zero z = simp (← e, eq-eqb m 0 z)

  module _ (some : m ≡ 0 → ⊥) where
    pub kind_finite : m < infinity → Finite ≡ kind_of x
    unfolding kind_of
    kind_finite h = simp (← e, ne_eqb m 0 some, lt-ltb m infinity h)

    module _ (past : infinity ≤ m) where
      pub kind_infinity : m ≡ infinity → Infinity ≡ kind_of x
      unfolding kind_of
      kind_infinity i = simp (← e, ne_eqb m 0 some, le-ltb m infinity past, eq-eqb m infinity i)

      pub kind_nan : (m ≡ infinity → ⊥) → NaN ≡ kind_of x
      unfolding kind_of
      kind_nan n = simp (← e, ne_eqb m 0 some, le-ltb m infinity past, ne_eqb m infinity n)

-- ---- and back: what the finite kind says of the magnitude

-- whether a kind is the finite one
abbrev is_finite : Kind → Bool
is_finite Zero = false
is_finite Finite = true
is_finite Infinity = false
is_finite NaN = false

module _ (x : ℕ) (finite : kind_of x ≡ Finite) where
  not_another : (k : Kind) → is_finite k ≡ false → k ≡ kind_of x → ⊥
  not_another k other e = false≢true (sym other ∙ ap is_finite (e ∙ finite))

  -- a finite number's magnitude is above zero's
  pub finite_positive : 0 < mag x
  finite_positive = lt_of_not-le (λ (none : mag x ≤ 0). not_another Zero refl (kind_zero x (mag x) refl (le-zero none)))

  -- and below infinity's
  pub finite_below : mag x < infinity
  finite_below = lt_of_not-le (λ (past : infinity ≤ mag x). go past (eq-or-lt_of_le past))
    where
      some : mag x ≡ 0 → ⊥
      some none = lt_irrefl 0 (subst (λ (m : ℕ). 0 < m) none finite_positive)

      go : infinity ≤ mag x → (infinity ≡ mag x) ⊎ (infinity < mag x) → ⊥
      go past (inl at) = not_another Infinity refl (kind_infinity x (mag x) refl some past (sym at))
      go past (inr over) =
          not_another NaN refl
          (kind_nan x (mag x) refl some past (λ (at : mag x ≡ infinity). lt_irrefl infinity (subst (λ (m : ℕ). infinity < m) at over)))

-- a pattern is finite or it is not
pub finite_or_not : (x : ℕ) → (kind_of x ≡ Finite) ⊎ (kind_of x ≡ Finite → ⊥)
finite_or_not x = go (kind_of x)
  where
    go : (k : Kind) → (k ≡ Finite) ⊎ (k ≡ Finite → ⊥)
    go Zero = inr (λ e. false≢true (ap is_finite e))
    go Finite = inl refl
    go Infinity = inr (λ e. false≢true (ap is_finite e))
    go NaN = inr (λ e. false≢true (ap is_finite e))

-- ---- what not being a NaN says of it

module _ (x : ℕ) where
  -- a magnitude above infinity's is a NaN's,
  above_nan : infinity < mag x → kind_of x ≡ NaN
  above_nan over =
      sym (kind_nan x (mag x) refl (ne_of_gt (lt_of_le_of_lt zero-le over)) (le_of_lt over) (ne_of_gt over))

  -- so that of any other pattern is not
  pub number_not_above : (kind_of x ≡ NaN → ⊥) → mag x ≤ infinity
  number_not_above number = le_of_not_lt (λ (over : infinity < mag x). number (above_nan over))
