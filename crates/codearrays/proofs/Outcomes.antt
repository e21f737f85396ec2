-- What a packing or unpacking call reports and leaves in the output, over any two rules: the one that refuses entries and the one
-- by which an entry is written. Assumes nothing.
use mathlib.Core.Bool.{Bool, true, false, cond, not}
use mathlib.Core.List.{List, map}
use mathlib.Core.Path.{◌≡◌, refl, ap}
use Prim.Native.Nat.{ℕ}
use native.Mathlib.Omega.{arith}
use lib.Dec.{eqb}
use borrow.Author.Tests.{eqb-true, eq-eqb, ne_eqb}
use Rattle.grid.specs.declared.Format.{Format}
use Rattle.reports.specs.declared.Report.{Report}
use Rattle.reports.specs.Reports.{report, first_refused}
use Rattle.codearrays.specs.Codes.{then_lengths, codes_refusal, codes_reported, codes_afterwards}

-- ---- before any entry is looked at

module _ (number inputs outputs : ℕ) (none : then_lengths number inputs outputs ≡ 0) where
  -- where nothing is refused the number is 0,
  pub number-accepted : number ≡ 0
  unfolding then_lengths
  number-accepted = go (eqb number 0) refl none
    where
      go : (b : Bool) → eqb number 0 ≡ b → cond (not b) number (cond (not (eqb outputs inputs)) 5 0) ≡ 0 → number ≡ 0
      go true e h = eqb-true number 0 e
      go false e h = h

  -- and there are as many outputs as inputs
  pub outputs_accepted : outputs ≡ inputs
  unfolding then_lengths
  outputs_accepted = go (eqb outputs inputs) refl (simp (eq-eqb number 0 number-accepted) at none)
    where
      go : (b : Bool) → eqb outputs inputs ≡ b → ◌≡◌ {A = ℕ} (cond (not b) 5 0) 0 → outputs ≡ inputs
      go true e h = eqb-true outputs inputs e
      go false e h = absurd (omega arith)

-- ---- what is reported

module _ (refuses : ℕ → ℕ) (f : Format) (xs out : List ℕ) where
  -- by whether the format and the lengths are accepted
  abbrev reported_where : Bool → Report
  reported_where accepted = cond accepted (first_refused refuses 0 xs) (report (codes_refusal f xs out))

  -- what they refuse comes first, with place 0,
  pub unlooked_reported : (codes_refusal f xs out ≡ 0 → ⊥) → codes_reported refuses f xs out ≡ report (codes_refusal f xs out)
  unfolding codes_reported
  unlooked_reported some = ap reported_where (ne_eqb (codes_refusal f xs out) 0 some)

  -- then the first entry that is refused
  pub looked_reported : codes_refusal f xs out ≡ 0 → codes_reported refuses f xs out ≡ first_refused refuses 0 xs
  unfolding codes_reported
  looked_reported none = ap reported_where (eq-eqb (codes_refusal f xs out) 0 none)

  -- in an accepted call the format and the lengths refuse nothing
  pub accepted_unlooked : (codes_reported refuses f xs out).number ≡ 0 → codes_refusal f xs out ≡ 0
  unfolding codes_reported
  accepted_unlooked = go (eqb (codes_refusal f xs out) 0) refl
    where
      go : (b : Bool) → eqb (codes_refusal f xs out) 0 ≡ b → (reported_where b).number ≡ 0 → codes_refusal f xs out ≡ 0
      go true e h = eqb-true (codes_refusal f xs out) 0 e
      go false e h = h

-- ---- what the output holds

module _ (refuses writes : ℕ → ℕ) (f : Format) (xs out : List ℕ) where
  -- by whether the call is accepted
  abbrev left : Bool → List ℕ
  left accepted = cond accepted (map writes xs) out

  -- a refused call leaves what there was,
  pub refused_leaves : ((codes_reported refuses f xs out).number ≡ 0 → ⊥) → codes_afterwards refuses writes f xs out ≡ out
  unfolding codes_afterwards
  refused_leaves some = ap left (ne_eqb (codes_reported refuses f xs out).number 0 some)

  -- an accepted one what is written for each entry
  pub accepted_leaves : (codes_reported refuses f xs out).number ≡ 0 → codes_afterwards refuses writes f xs out ≡ map writes xs
  unfolding codes_afterwards
  accepted_leaves none = ap left (eq-eqb (codes_reported refuses f xs out).number 0 none)
