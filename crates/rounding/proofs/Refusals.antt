-- The refusals, as the code comes to them, and what a call that is not refused may lean on. Assumes nothing.
use mathlib.Core.Bool.{Bool, true, false, cond, not, ◌&&◌}
use mathlib.Core.Path.{◌≡◌, refl, sym, ap, ◌∙◌, subst}
use Prim.Native.Nat.{ℕ, suc, ◌≤◌}
use native.Mathlib.Omega.{arith}
use lib.Dec.{ltb}
use borrow.Author.Tests.{ne_eqb}
use Rattle.refusals.specs.declared.Refusal.{Refusal}
use Rattle.refusals.specs.Refusals.{number_of}
use Rattle.refusals.proofs.Apart.{number_some}
use Rattle.grid.specs.declared.Format.{Format}
use Rattle.grid.specs.Formats.{between, precision_fits, exponent_fits, in_range, range_refusal, InRange}
use Rattle.grid.proofs.Ranges.{between_least, between-most, in_range_bounds}
use Rattle.magnitudes.specs.declared.Mode.{Mode}
use Rattle.magnitudes.specs.declared.Mode.TheVariants.{TiesToEven, TiesToZero, TiesAway, TowardZero, TowardPlus, TowardMinus, ToOdd, Stochastic, EvenChance}
use Rattle.magnitudes.specs.Modes.{mode_of, ModeFits}
use Rattle.magnitudes.proofs.ModeTables.{number_cases, mode_above}
use Rattle.rounding.specs.Calls.{bits_fit, mode_refusal, refusal}

-- ---- one test after the other

-- what is refused first stays the first refusal, whatever comes after it
in_order-some : (p x : Bool) (n rest : ℕ) → (n ≡ 0 → ⊥) → n ≡ cond p 1 (cond x 2 0) → n ≡ cond p 1 (cond x 2 rest)
in_order-some true x n rest some is = is
in_order-some false true n rest some is = is
in_order-some false false n rest some is = absurd (some is)

-- and where nothing is, what comes after it decides
in_order-none : (p x : Bool) (n rest : ℕ) → ◌≡◌ {A = ℕ} 0 (cond p 1 (cond x 2 0)) → n ≡ rest → n ≡ cond p 1 (cond x 2 rest)
in_order-none true x n rest none is = absurd (omega (arith, none))
in_order-none false true n rest none is = absurd (omega (arith, none))
in_order-none false false n rest none is = is

module _ (f : Format) (mode r : ℕ) where
  pub by_range : (e : Refusal) → number_of e ≡ range_refusal f → number_of e ≡ refusal f mode r
  unfolding refusal
  by_range e is = in_order-some (not (precision_fits f.p)) (not (exponent_fits f.emax)) (number_of e) (mode_refusal mode r) (number_some e) is

  pub by_mode : 0 ≡ range_refusal f → (n : ℕ) → n ≡ mode_refusal mode r → n ≡ refusal f mode r
  unfolding refusal
  by_mode none n is = in_order-none (not (precision_fits f.p)) (not (exponent_fits f.emax)) n (mode_refusal mode r) none is

-- ---- a call that is not refused

-- a format whose range is not refused is in range
pub range_accepted : (f : Format) → 0 ≡ range_refusal f → in_range f ≡ true
unfolding in_range
range_accepted f none = go (precision_fits f.p) (exponent_fits f.emax) none
  where
    go : (p x : Bool) → ◌≡◌ {A = ℕ} 0 (cond (not p) 1 (cond (not x) 2 0)) → (p && x) ≡ true
    go true true h = refl
    go true false h = absurd (omega (arith, h))
    go false x h = absurd (omega (arith, h))

-- and so is that of a call that is not refused
pub accepted-in_range : (f : Format) (mode r n : ℕ) → n ≡ refusal f mode r → n ≡ 0 → in_range f ≡ true
unfolding refusal
accepted-in_range f mode r n e none =
    range_accepted f (go (not (precision_fits f.p)) (not (exponent_fits f.emax)) (mode_refusal mode r) (sym e ∙ none))
  where
    go : (p x : Bool) (rest : ℕ) → ◌≡◌ {A = ℕ} (cond p 1 (cond x 2 rest)) 0 → ◌≡◌ {A = ℕ} 0 (cond p 1 (cond x 2 0))
    go true x rest h = absurd (omega (arith, h))
    go false true rest h = absurd (omega (arith, h))
    go false false rest h = refl

pub accepted_inside : (f : Format) (mode r : ℕ) → refusal f mode r ≡ 0 → InRange f
accepted_inside f mode r none = in_range_bounds f (accepted-in_range f mode r 0 (sym none) refl)

-- in mode 7 its r fits
accepted_bits : (f : Format) (r : ℕ) → refusal f 7 r ≡ 0 → (1 ≤ r) × (r ≤ 53)
unfolding refusal bits_fit
accepted_bits f r none =
    let fits : between 1 r 53 ≡ true = go (precision_fits f.p) (exponent_fits f.emax) (between 1 r 53) none in
    (between_least 1 r 53 fits, between-most 1 r 53 fits)
  where
    go : (p x b : Bool) → ◌≡◌ {A = ℕ} (cond (not p) 1 (cond (not x) 2 (cond (not b) 4 0))) 0 → b ≡ true
    go true true true h = refl
    go true true false h = absurd (omega arith)
    go true false b h = absurd (omega arith)
    go false x b h = absurd (omega arith)

-- the random bits that a mode holds, and one more; 0 where it holds none
abbrev holds : Mode → ℕ
holds TiesToEven = 0
holds TiesToZero = 0
holds TiesAway = 0
holds TowardZero = 0
holds TowardPlus = 0
holds TowardMinus = 0
holds ToOdd = 0
holds (Stochastic r) = suc r
holds EvenChance = 0

-- only number 7 is stochastic rounding, with the call's r
stochastic_is_seven : (mode r b : ℕ) → holds (mode_of mode r) ≡ suc b → (mode ≡ 7) × (r ≡ b)
unfolding mode_of
stochastic_is_seven mode r b =
    number_cases (λ (k : ℕ). holds (mode_of k r) ≡ suc b → (k ≡ 7) × (r ≡ b))
    (λ e. absurd (omega arith)) (λ e. absurd (omega arith)) (λ e. absurd (omega arith)) (λ e. absurd (omega arith))
    (λ e. absurd (omega arith)) (λ e. absurd (omega arith)) (λ e. absurd (omega arith)) (λ e. (refl, omega arith))
    (λ k e. let last = ap holds (mode_above k r) in absurd (omega arith)) mode

-- so its mode is one of document 01's
pub accepted_mode_fits : (f : Format) (mode r : ℕ) → refusal f mode r ≡ 0 → ModeFits (mode_of mode r)
accepted_mode_fits f mode r none b is =
    let seven = stochastic_is_seven mode r b (ap holds is) in
    let bits = accepted_bits f r (ap (λ (k : ℕ). refusal f k r) (sym seven.0) ∙ none) in
    subst (λ (k : ℕ). (1 ≤ k) × (k ≤ 53)) seven.1 bits

-- ---- r

-- a mode other than 7 is refused or not whatever r is
pub refusal_unread : (f : Format) (mode r s : ℕ) → (mode ≡ 7 → ⊥) → refusal f mode r ≡ refusal f mode s
unfolding refusal
refusal_unread f mode r s other = ap (number r) (ne_eqb mode 7 other) ∙ sym (ap (number s) (ne_eqb mode 7 other))
  where
    number : ℕ → Bool → ℕ
    number b seven = cond (not (precision_fits f.p)) 1 (cond (not (exponent_fits f.emax)) 2 (cond (ltb 8 mode) 3 (cond (seven && not (bits_fit b)) 4 0)))
