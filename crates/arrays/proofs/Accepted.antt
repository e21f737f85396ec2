-- When an array call is accepted, and what makes two calls be accepted or refused alike. Assumes nothing.
use mathlib.Core.Bool.{Bool, true, false, cond, not, ◌&&◌}
use mathlib.Core.Path.{◌≡◌, refl, sym, ap, ◌∙◌}
use Prim.Native.Nat.{ℕ, ◌≤◌}
use native.Mathlib.Omega.{arith}
use lib.Dec.{ltb, eqb}
use borrow.Author.Tests.{ltb-false, eqb-true, le-ltb, eq-eqb}
use Rattle.grid.specs.declared.Format.{Format}
use Rattle.magnitudes.specs.declared.Mode.{Mode}
use Rattle.magnitudes.specs.Modes.{mode_of, uses_word}
use Rattle.rounding.specs.Calls.{refusal}
use Rattle.arrays.specs.Rounding.{lengths_refusal, array_refusal}

-- ---- the lengths

module _ (mode : Mode) (words inputs outputs : ℕ) (none : lengths_refusal mode words inputs outputs ≡ 0) where
  -- lengths that are not refused: an output as long as the input
  pub lengths_agree : outputs ≡ inputs
  unfolding lengths_refusal
  lengths_agree = go (eqb outputs inputs) refl none
    where
      rest : ℕ
      rest = cond (uses_word mode && ltb words inputs) 6 0

      go : (b : Bool) → eqb outputs inputs ≡ b → cond (not b) 5 rest ≡ 0 → outputs ≡ inputs
      go true e h = eqb-true outputs inputs e
      go false e h = absurd (omega arith)

  -- and words enough, where the mode uses them
  pub words_suffice : uses_word mode ≡ true → inputs ≤ words
  unfolding lengths_refusal
  words_suffice used =
      go (eqb outputs inputs) (ltb words inputs) refl
      (ap (λ (t : Bool). cond (not (eqb outputs inputs)) 5 (cond (t && ltb words inputs) 6 0)) (sym used) ∙ none)
    where
      go : (b t : Bool) → ltb words inputs ≡ t → ◌≡◌ {A = ℕ} (cond (not b) 5 (cond t 6 0)) 0 → inputs ≤ words
      go true true e h = absurd (omega arith)
      go true false e h = ltb-false words inputs e
      go false t e h = absurd (omega arith)

-- and such lengths are not refused
pub lengths_accept : (mode : Mode) (words inputs outputs : ℕ) → outputs ≡ inputs → (uses_word mode ≡ true → inputs ≤ words) → lengths_refusal mode words inputs outputs ≡ 0
unfolding lengths_refusal
lengths_accept mode words inputs outputs same enough = go (uses_word mode) refl
  where
    go : (b : Bool) → uses_word mode ≡ b → ◌≡◌ {A = ℕ} (cond (not (eqb outputs inputs)) 5 (cond (b && ltb words inputs) 6 0)) 0
    go true used = simp (eq-eqb outputs inputs same, le-ltb words inputs (enough used))
    go false unused = simp (eq-eqb outputs inputs same)

-- the words count only by whether they are used and too few
pub lengths_alike : (mode : Mode) (words others inputs outputs : ℕ) → (uses_word mode && ltb words inputs) ≡ (uses_word mode && ltb others inputs)
    → lengths_refusal mode words inputs outputs ≡ lengths_refusal mode others inputs outputs
unfolding lengths_refusal
lengths_alike mode words others inputs outputs same = ap (λ (few : Bool). cond (not (eqb outputs inputs)) 5 (cond few 6 0)) same

-- ---- the numbers and the lengths

module _ (f : Format) (mode r words inputs outputs : ℕ) where
  -- where the numbers are accepted, the lengths decide alone
  pub by_lengths_alone : refusal f mode r ≡ 0 → array_refusal f mode r words inputs outputs ≡ lengths_refusal (mode_of mode r) words inputs outputs
  unfolding array_refusal
  by_lengths_alone none =
      ap (λ (b : Bool). cond (not b) (refusal f mode r) (lengths_refusal (mode_of mode r) words inputs outputs)) (eq-eqb (refusal f mode r) 0 none)

  numbers_decide : (b : Bool) → eqb (refusal f mode r) 0 ≡ b
      → cond (not b) (refusal f mode r) (lengths_refusal (mode_of mode r) words inputs outputs) ≡ 0 → refusal f mode r ≡ 0
  numbers_decide true e none = eqb-true (refusal f mode r) 0 e
  numbers_decide false e none = none

  -- an accepted call is refused neither by its numbers
  pub numbers_accepted : array_refusal f mode r words inputs outputs ≡ 0 → refusal f mode r ≡ 0
  unfolding array_refusal
  numbers_accepted = numbers_decide (eqb (refusal f mode r) 0) refl

  -- nor by its lengths
  pub lengths_accepted : array_refusal f mode r words inputs outputs ≡ 0 → lengths_refusal (mode_of mode r) words inputs outputs ≡ 0
  lengths_accepted none = sym (by_lengths_alone (numbers_accepted none)) ∙ none

  -- and a call that neither refuses is accepted
  pub call_accepted : refusal f mode r ≡ 0 → lengths_refusal (mode_of mode r) words inputs outputs ≡ 0 → array_refusal f mode r words inputs outputs ≡ 0
  call_accepted numbers lengths = by_lengths_alone numbers ∙ lengths

-- two calls with the same numbers are refused alike where their lengths are
pub refused_alike : (f : Format) (mode r words others inputs outputs : ℕ)
    → lengths_refusal (mode_of mode r) words inputs outputs ≡ lengths_refusal (mode_of mode r) others inputs outputs
    → array_refusal f mode r words inputs outputs ≡ array_refusal f mode r others inputs outputs
unfolding array_refusal
refused_alike f mode r words others inputs outputs same = ap (λ (n : ℕ). cond (not (eqb (refusal f mode r) 0)) (refusal f mode r) n) same
