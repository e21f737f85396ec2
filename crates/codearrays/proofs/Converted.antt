-- The words of an array converted as the code comes to them, by any two rules: what is reported, and what the output holds. Assumes
-- nothing.
use mathlib.Core.List.{List, map}
use mathlib.Core.Path.{◌≡◌, sym, ap₂, ◌∙◌}
use Prim.Native.Nat.{ℕ}
use lib.ListN.{length}
use borrow.Author.Tests.{ne_eqb}
use Rattle.refusals.specs.declared.Refusal.{Refusal}
use Rattle.refusals.specs.Refusals.{number_of}
use Rattle.refusals.proofs.Apart.{number_some}
use Rattle.reports.specs.declared.Refused.{Refused}
use Rattle.reports.specs.declared.Report.{Report}
use Rattle.reports.specs.Reports.{report, report_at, first_refused}
use Rattle.codearrays.specs.Codes.{then_lengths}
use Rattle.codearrays.specs.Loops.{words_reported, words_afterwards}

module _ (refuses : ℕ → ℕ) (xs out : List ℕ) where
  -- a refused call leaves what there was
  left_alone : (writes : ℕ → ℕ) (e : Refusal) (place : ℕ) → report_at (number_of e) place ≡ words_reported refuses xs out
      → out ≡ words_afterwards refuses writes xs out
  unfolding words_afterwards
  left_alone writes e place is = sym (simp (← is, ne_eqb (number_of e) 0 (number_some e)))

  module _ (inputs outputs : ℕ) (many : inputs ≡ length xs) (places : outputs ≡ length out) where
    counted_is : then_lengths 0 inputs outputs ≡ then_lengths 0 (length xs) (length out)
    counted_is = ap₂ (then_lengths 0) many places

    -- where the lengths fit, the words decide
    module _ (fits : 0 ≡ then_lengths 0 inputs outputs) where
      pub found_report : (r : Report) → r ≡ first_refused refuses 0 xs → r ≡ words_reported refuses xs out
      unfolding words_reported
      found_report r found = let d = fits ∙ counted_is in found ∙ sym (simp (← d))

      pub found_output : (e : Refused) → report_at (number_of e.refusal) e.place ≡ first_refused refuses 0 xs → (writes : ℕ → ℕ)
          → out ≡ words_afterwards refuses writes xs out
      found_output e found writes = left_alone writes e.refusal e.place (found_report (report_at (number_of e.refusal) e.place) found)

      -- and each place holds what was made of its word
      pub made_output : report 0 ≡ first_refused refuses 0 xs → (writes : ℕ → ℕ) (after : List ℕ) → after ≡ map writes xs
          → after ≡ words_afterwards refuses writes xs out
      unfolding words_afterwards
      made_output none writes after is = is ∙ sym (simp (← found_report (report 0) none))
