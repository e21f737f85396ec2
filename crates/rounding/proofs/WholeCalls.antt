-- The calls: what is prepared, and the answer to one pattern, in the forms in which the code comes to them; and that only mode 7
-- looks at r. Assumes nothing.
use mathlib.Core.Bool.{Bool, cond}
use mathlib.Core.Path.{◌≡◌, sym, ap, ap₂, ◌∙◌}
use Prim.Native.Nat.{ℕ}
use lib.Dec.{eqb}
use borrow.Author.Tests.{eq-eqb, ne_eqb}
use Rattle.refusals.specs.declared.Refusal.{Refusal}
use Rattle.refusals.specs.Refusals.{number_of}
use Rattle.refusals.proofs.Apart.{number_some}
use Rattle.grid.specs.declared.Format.{Format}
use Rattle.grid.specs.Formats.{range_refusal}
use Rattle.magnitudes.specs.declared.Mode.{Mode}
use Rattle.magnitudes.specs.declared.Settings.{Settings}
use Rattle.magnitudes.specs.Modes.{mode_of}
use Rattle.magnitudes.specs.BySettings.{settings}
use Rattle.magnitudes.proofs.ModeTables.{mode_unread}
use Rattle.rounding.specs.Rounded.{rounded}
use Rattle.rounding.specs.BySettings.{Ready, Refused, rounded_by, unless_refused, prepared}
use Rattle.rounding.specs.Calls.{mode_refusal, refusal, answered, refused, round_one}
use Rattle.rounding.proofs.Refusals.{by_mode, accepted_inside, accepted_mode_fits, refusal_unread}
use Rattle.rounding.proofs.Preparations.{ready-none, ready-settings, refused_is, refused_some}
use Rattle.rounding.proofs.Agreement.{rounded_by-settings}

-- ---- what is prepared

module _ (f : Format) (mode r : ℕ) where
  pub prepared_ready : 0 ≡ range_refusal f → 0 ≡ mode_refusal mode r → (known : Mode) → known ≡ mode_of mode r → (s : Settings) → s ≡ settings f known
      → Ready s ≡ prepared f mode r
  unfolding prepared unless_refused
  prepared_ready range fits known named s made = simp (← by_mode f mode r range 0 fits, made, named)

  pub prepared_refused : (e : Refusal) → number_of e ≡ refusal f mode r → Refused (number_of e) ≡ prepared f mode r
  unfolding prepared unless_refused
  prepared_refused e is = simp (← is, ne_eqb (number_of e) 0 (number_some e))

-- ---- the answer to one pattern

-- what a call that is not refused answers: the rounded pattern
pub accepted_pattern : (f : Format) (mode r : ℕ) → refusal f mode r ≡ 0 → (word x : ℕ) → rounded_by (settings f (mode_of mode r)) word x ≡ rounded f (mode_of mode r) word x
accepted_pattern f mode r none = rounded_by-settings f (accepted_inside f mode r none) (mode_of mode r) (accepted_mode_fits f mode r none)

module _ (f : Format) (mode r word x : ℕ) where
  pub answer_ready : (s : Settings) → Ready s ≡ prepared f mode r → (y : ℕ) → y ≡ rounded_by s word x → answered y ≡ round_one f mode r word x
  unfolding prepared round_one
  answer_ready s is y goes =
      let n = refusal f mode r in
      let t = settings f (mode_of mode r) in
      let none = ready-none n t s (sym is) in
      let made = ready-settings n t s (sym is) in
      ap answered (goes ∙ ap (λ (k : Settings). rounded_by k word x) made ∙ accepted_pattern f mode r none word x)
      ∙ sym (ap (λ (b : Bool). cond b (answered (rounded f (mode_of mode r) word x)) (refused n)) (eq-eqb n 0 none))

  pub answer_refused : (n : ℕ) → Refused n ≡ prepared f mode r → refused n ≡ round_one f mode r word x
  unfolding prepared round_one
  answer_refused n is =
      let m = refusal f mode r in
      let t = settings f (mode_of mode r) in
      ap refused (refused_is m t n (sym is))
      ∙ sym (ap (λ (b : Bool). cond b (answered (rounded f (mode_of mode r) word x)) (refused m)) (refused_some m t n (sym is)))

-- ---- r

-- the answer of a mode other than 7 is the same whatever r is
pub r_unread : (f : Format) (mode r s word x : ℕ) → (mode ≡ 7 → ⊥) → round_one f mode r word x ≡ round_one f mode s word x
unfolding round_one
r_unread f mode r s word x other =
    ap₂ (λ (n : ℕ) (m : Mode). cond (eqb n 0) (answered (rounded f m word x)) (refused n)) (refusal_unread f mode r s other) (mode_unread mode r s other)
