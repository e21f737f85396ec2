-- What an array call decides, as the code comes to it. Assumes nothing.
use mathlib.Core.Bool.{Bool, true, not}
use mathlib.Core.Path.{◌≡◌, sym, ap, ◌∙◌}
use Prim.Native.Nat.{ℕ}
use borrow.Author.Tests.{not-true, eq-eqb, ne_eqb}
use Rattle.refusals.specs.declared.Refusal.{Refusal}
use Rattle.refusals.specs.Refusals.{number_of}
use Rattle.refusals.proofs.Apart.{number_some}
use Rattle.grid.specs.declared.Format.{Format}
use Rattle.magnitudes.specs.declared.Settings.{Settings}
use Rattle.magnitudes.specs.declared.Mode.{Mode}
use Rattle.magnitudes.specs.Modes.{mode_of, uses_word}
use Rattle.magnitudes.specs.BySettings.{settings}
use Rattle.rounding.specs.Calls.{refusal}
use Rattle.rounding.specs.BySettings.{Ready, Refused, unless_refused, prepared}
use Rattle.rounding.proofs.Preparations.{ready-none, ready-settings, refused_is, refused_some}
use Rattle.arrays.specs.Rounding.{lengths_refusal, array_refusal}
use Rattle.arrays.specs.Loops.{decided}
use Rattle.arrays.proofs.Accepted.{by_lengths_alone}

-- ---- what the lengths refuse

module _ (mode : Mode) (words inputs outputs : ℕ) where
  module _ (same : outputs ≡ inputs) (b : Bool) (tested : b ≡ uses_word mode) where
    -- a mode that uses no word needs none: where the output is as long as the input, the lengths refuse nothing
    pub needs_no_words : not b ≡ true → 0 ≡ lengths_refusal mode words inputs outputs
    unfolding lengths_refusal
    needs_no_words unused = simp (eq-eqb outputs inputs same, ← tested, not-true b unused)

-- ---- what is decided

module _ (f : Format) (mode r words inputs outputs : ℕ) where
  module _ (s : Settings) (ready : Ready s ≡ prepared f mode r) where
    -- where the numbers are accepted, the settings are the call's
    accepted : refusal f mode r ≡ 0
    unfolding prepared
    accepted = ready-none (refusal f mode r) (settings f (mode_of mode r)) s (sym ready)

    made : s ≡ settings f (mode_of mode r)
    unfolding prepared
    made = ready-settings (refusal f mode r) (settings f (mode_of mode r)) s (sym ready)

    -- and the lengths decide
    by_lengths : (n : ℕ) → n ≡ lengths_refusal s.mode words inputs outputs → n ≡ array_refusal f mode r words inputs outputs
    unfolding settings
    by_lengths n counted =
        counted
        ∙ ap (λ (t : Settings). lengths_refusal t.mode words inputs outputs) made
        ∙ sym (by_lengths_alone f mode r words inputs outputs accepted)

    pub decided_ready : 0 ≡ lengths_refusal s.mode words inputs outputs → Ready s ≡ decided f mode r words inputs outputs
    unfolding decided unless_refused
    decided_ready none = simp (← by_lengths 0 none, made)

    pub decided_by_lengths : (e : Refusal) → number_of e ≡ lengths_refusal s.mode words inputs outputs → Refused (number_of e) ≡ decided f mode r words inputs outputs
    unfolding decided unless_refused
    decided_by_lengths e is = simp (← by_lengths (number_of e) is, ne_eqb (number_of e) 0 (number_some e))

  -- where they are refused, that is the first refusal
  pub decided_first : (n : ℕ) → Refused n ≡ prepared f mode r → Refused n ≡ decided f mode r words inputs outputs
  unfolding decided unless_refused prepared array_refusal
  decided_first n refused =
      let t = settings f (mode_of mode r) in
      simp (refused_some (refusal f mode r) t n (sym refused), refused_is (refusal f mode r) t n (sym refused))
