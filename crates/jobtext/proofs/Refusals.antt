-- Which numbers a job can be refused with: those of its p, emax, mode and r, since its arrays have the right lengths. Assumes nothing.
use mathlib.Core.Bool.{Bool, true, false, cond, not, ◌&&◌, ◌||◌, false≢true}
use mathlib.Core.Logic.{◌⊎◌, inl, inr}
use mathlib.Core.Path.{◌≡◌, refl, sym, ap, ◌∙◌}
use Prim.Native.Nat.{ℕ, ◌≤◌, ◌<◌}
use native.Mathlib.Omega.{arith}
use lib.Dec.{ltb, eqb}
use lib.ListN.{length, length-replicate}
use borrow.Author.Tests.{ltb-false, eqb-true, eqb-false, eq-eqb}
use Rattle.laws.proofs.Orders.{below_or_not}
use Rattle.grid.specs.declared.Format.{Format}
use Rattle.grid.specs.Formats.{precision_fits, exponent_fits}
use Rattle.magnitudes.specs.Modes.{mode_of, uses_word}
use Rattle.magnitudes.proofs.ModeTables.{no_word-below_seven}
use Rattle.rounding.specs.Calls.{bits_fit, refusal}
use Rattle.reports.specs.Reports.{report}
use Rattle.arrays.specs.Rounding.{lengths_refusal, array_refusal, reported}
use Rattle.arrays.proofs.Accepted.{lengths_accept}
use Rattle.jobs.specs.Layout.{Job, InRange, has_words}
use Rattle.jobtext.specs.Runs.{format_of, room}
use Rattle.jobtext.specs.Facts.{JobsAreRefusedByNumber, RefusalsAreFew}

-- the numbers end at 4
pub refusals_are_few : RefusalsAreFew
unfolding refusal
refusals_are_few f mode r = go (precision_fits f.p) (exponent_fits f.emax) (ltb 8 mode) (eqb mode 7 && not (bits_fit r))
  where
    go : (p e m b : Bool) → cond (not p) 1 (cond (not e) 2 (cond m 3 (cond b 4 0))) ≤ 4
    go false e m b = omega arith
    go true false m b = omega arith
    go true true true b = omega arith
    go true true false true = omega arith
    go true true false false = omega arith

-- an accepted mode is at most 8
accepted_mode : (f : Format) (mode r : ℕ) → refusal f mode r ≡ 0 → mode ≤ 8
unfolding refusal
accepted_mode f mode r = go (precision_fits f.p) (exponent_fits f.emax) (ltb 8 mode) refl (eqb mode 7 && not (bits_fit r))
  where
    go : (p e m : Bool) → ltb 8 mode ≡ m → (b : Bool) → ◌≡◌ {A = ℕ} (cond (not p) 1 (cond (not e) 2 (cond m 3 (cond b 4 0)))) 0 → mode ≤ 8
    go false e m h b none = absurd (omega arith)
    go true false m h b none = absurd (omega arith)
    go true true true h b none = absurd (omega arith)
    go true true false h b none = ltb-false 8 mode h

-- one that uses words has them in its text
used_has_words : (mode r : ℕ) → mode ≤ 8 → uses_word (mode_of mode r) ≡ true → has_words mode ≡ true
unfolding has_words
used_has_words mode r most used = go (below_or_not mode 7)
  where
    either : (seven : Bool) → eqb mode 7 ≡ seven → 7 ≤ mode → (seven || eqb mode 8) ≡ true
    either true e above = refl
    either false e above =
        let apart : mode ≡ 7 → ⊥ = eqb-false mode 7 e in
        eq-eqb mode 8 (omega arith)

    go : (mode < 7) ⊎ (7 ≤ mode) → (eqb mode 7 || eqb mode 8) ≡ true
    go (inl below) = absurd (false≢true (sym (no_word-below_seven mode r below) ∙ used))
    go (inr above) = either (eqb mode 7) refl above

module _ (j : Job) (range : InRange j) where
  -- a job's arrays have the right lengths
  lengths_right : refusal (format_of j) j.mode j.r ≡ 0
      → lengths_refusal (mode_of j.mode j.r) (length j.ws) (length j.xs) (length (room j)) ≡ 0
  lengths_right none =
      lengths_accept (mode_of j.mode j.r) (length j.ws) (length j.xs) (length (room j)) (length-replicate (length j.xs) 0)
      (λ used.
      let has = used_has_words j.mode j.r (accepted_mode (format_of j) j.mode j.r none) used in
      let each : length j.ws ≡ length j.xs = range.a_word_each ∙ ap (λ (t : Bool). cond t (length j.xs) 0) has in
      omega (arith, each))

  -- so the numbers decide alone
  numbers_decide : array_refusal (format_of j) j.mode j.r (length j.ws) (length j.xs) (length (room j)) ≡ refusal (format_of j) j.mode j.r
  unfolding array_refusal
  numbers_decide = go (eqb (refusal (format_of j) j.mode j.r) 0) refl
    where
      go : (b : Bool) → eqb (refusal (format_of j) j.mode j.r) 0 ≡ b
          → cond (not b) (refusal (format_of j) j.mode j.r) (lengths_refusal (mode_of j.mode j.r) (length j.ws) (length j.xs) (length (room j)))
          ≡ refusal (format_of j) j.mode j.r
      go true e = let none = eqb-true (refusal (format_of j) j.mode j.r) 0 e in lengths_right none ∙ sym none
      go false e = refl

pub jobs_are_refused_by_number : JobsAreRefusedByNumber
unfolding reported
jobs_are_refused_by_number j range = ap report (numbers_decide j range)
