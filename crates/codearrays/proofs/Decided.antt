-- What is decided by the format and the lengths, as the code comes to it. Assumes nothing.
use mathlib.Core.Bool.{Bool, true, false, cond}
use mathlib.Core.Path.{◌≡◌, refl, sym, ap, ◌∙◌}
use Prim.Native.Nat.{ℕ}
use lib.Dec.{eqb}
use borrow.Author.Tests.{eqb-true, eq-eqb, ne_eqb}
use Rattle.refusals.specs.declared.Refusal.{Refusal}
use Rattle.refusals.specs.Refusals.{number_of}
use Rattle.refusals.proofs.Apart.{number_some}
use Rattle.grid.specs.declared.Format.{Format}
use Rattle.layouts.specs.declared.Layout.{Layout}
use Rattle.layouts.specs.Calls.{format_refusal}
use Rattle.layouts.specs.Layouts.{Laid, layout, ready, refused, laid}
use Rattle.layouts.proofs.Layouts.{laid_ready, laid_number}
use Rattle.codearrays.specs.Codes.{then_lengths}
use Rattle.codearrays.specs.Loops.{decided}
use Rattle.codearrays.proofs.Refusals.{format_refused}
use Rattle.codearrays.proofs.Outcomes.{number-accepted}

module _ (f : Format) (inputs outputs : ℕ) where
  -- what is refused, by the number that comes first
  by_number : (d : Refusal) → number_of d ≡ then_lengths (format_refusal f) inputs outputs → refused (number_of d) ≡ decided f inputs outputs
  unfolding decided
  by_number d is = sym (simp (← is, ne_eqb (number_of d) 0 (number_some d)))

  -- where the format is accepted, the lengths decide
  module _ (none : (laid f).number ≡ 0) where
    accepted : format_refusal f ≡ 0
    accepted = sym (laid_number f (laid f) refl) ∙ none

    lengths_alone : then_lengths 0 inputs outputs ≡ then_lengths (format_refusal f) inputs outputs
    lengths_alone = ap (λ (n : ℕ). then_lengths n inputs outputs) (sym accepted)

    pub decided_ready : 0 ≡ then_lengths 0 inputs outputs → decided f inputs outputs ≡ laid f
    unfolding decided
    decided_ready fit =
        let n = fit ∙ lengths_alone in
        let made : decided f inputs outputs ≡ ready (layout f) = simp (← n) in
        made ∙ laid_ready f accepted (layout f) refl

    pub decided_by_lengths : (d : Refusal) → number_of d ≡ then_lengths 0 inputs outputs → decided f inputs outputs ≡ refused (number_of d)
    decided_by_lengths d is = sym (by_number d (is ∙ lengths_alone))

  -- where it is refused, that is the first refusal
  pub decided_first : (d : Refusal) → refused (number_of d) ≡ laid f → refused (number_of d) ≡ decided f inputs outputs
  decided_first d e =
      by_number d
      (format_refused (number_of d) inputs outputs (number_some d)
      ∙ ap (λ (n : ℕ). then_lengths n inputs outputs) (laid_number f (refused (number_of d)) e))

-- and what that says: the number is the first refusal's,
pub decided_number : (f : Format) (inputs outputs : ℕ) (y : Laid) → y ≡ decided f inputs outputs → y.number ≡ then_lengths (format_refusal f) inputs outputs
unfolding decided
decided_number f inputs outputs y e =
    let n = then_lengths (format_refusal f) inputs outputs in ap (λ (y : Laid). y.number) e ∙ go n (eqb n 0) refl
  where
    go : (n : ℕ) (b : Bool) → eqb n 0 ≡ b → (cond b (ready (layout f)) (refused n)).number ≡ n
    go n true t = sym (eqb-true n 0 t)
    go n false t = refl

-- and the layout is the one that the format has
pub decided_laid : (f : Format) (inputs outputs : ℕ) (l : Layout) → ready l ≡ decided f inputs outputs → ready l ≡ laid f
unfolding decided
decided_laid f inputs outputs l e =
    let none = sym (decided_number f inputs outputs (ready l) e) in
    laid_ready f (number-accepted (format_refusal f) inputs outputs none) l
    (ap (λ (y : Laid). y.layout) e
    ∙ ap (λ (b : Bool). (cond b (ready (layout f)) (refused (then_lengths (format_refusal f) inputs outputs))).layout)
    (eq-eqb (then_lengths (format_refusal f) inputs outputs) 0 none))
