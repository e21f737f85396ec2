-- The refusals that come before any code or pattern is looked at, as the code comes to them, and what a format that is not refused
-- may lean on. Assumes nothing.
use mathlib.Core.Bool.{Bool, true, false, cond, not, ◌&&◌}
use mathlib.Core.Path.{◌≡◌, refl, sym, ◌∙◌}
use Prim.Native.Nat.{ℕ, ◌≤◌}
use native.Mathlib.Omega.{arith}
use lib.Dec.{eqb}
use borrow.Author.Tests.{ne_eqb}
use Rattle.laws.proofs.Tests.{and_left, and_right}
use Rattle.refusals.specs.declared.Refusal.{Refusal}
use Rattle.refusals.specs.Refusals.{number_of}
use Rattle.refusals.proofs.Apart.{number_some}
use Rattle.grid.specs.declared.Format.{Format}
use Rattle.grid.specs.Formats.{precision_fits, exponent_fits, in_range, range_refusal, InRange}
use Rattle.grid.proofs.Ranges.{in_range_bounds, bounds_in_range}
use Rattle.layouts.specs.Fields.{has_code, HasCode}
use Rattle.layouts.specs.Calls.{format_refusal}
use Rattle.layouts.proofs.Fields.{tested_has_code, has_code_tested}

-- ---- one test after the other

-- what p and emax refuse comes first, and then 7
by_range : (f : Format) → format_refusal f ≡ cond (eqb (range_refusal f) 0) (cond (not (has_code f)) 7 0) (range_refusal f)
unfolding format_refusal
by_range f = go (not (precision_fits f.p)) (not (exponent_fits f.emax))
  where
    go : (p x : Bool) → ◌≡◌ {A = ℕ} (cond p 1 (cond x 2 (cond (not (has_code f)) 7 0)))
        (cond (eqb (cond p 1 (cond x 2 0)) 0) (cond (not (has_code f)) 7 0) (cond p 1 (cond x 2 0)))
    go true x = refl
    go false true = refl
    go false false = refl

module _ (f : Format) where
  pub refuses_range : (e : Refusal) → number_of e ≡ range_refusal f → number_of e ≡ format_refusal f
  refuses_range e is = sym (by_range f ∙ simp (← is, ne_eqb (number_of e) 0 (number_some e)))

  module _ (fits : 0 ≡ range_refusal f) where
    -- only an emax in range is asked for its code
    pub asked_exponent_fits : exponent_fits f.emax ≡ true
    asked_exponent_fits = go (precision_fits f.p) (exponent_fits f.emax) fits
      where
        go : (p x : Bool) → ◌≡◌ {A = ℕ} 0 (cond (not p) 1 (cond (not x) 2 0)) → x ≡ true
        go true true h = refl
        go true false h = absurd (omega arith)
        go false x h = absurd (omega arith)

    pub refuses_code : false ≡ has_code f → 7 ≡ format_refusal f
    refuses_code lacks = sym (by_range f ∙ simp (← fits, ← lacks))

    pub accepts_code : true ≡ has_code f → format_refusal f ≡ 0
    accepts_code has = by_range f ∙ simp (← fits, ← has)

-- 7 is the last of them
pub format_refusal-most : (f : Format) → format_refusal f ≤ 7
unfolding format_refusal
format_refusal-most f = go (not (precision_fits f.p)) (not (exponent_fits f.emax)) (not (has_code f))
  where
    go : (p x c : Bool) → cond p 1 (cond x 2 (cond c 7 0)) ≤ 7
    go true x c = omega arith
    go false true c = omega arith
    go false false true = omega arith
    go false false false = omega arith

-- ---- a format that is not refused

pub accepted-in_range : (f : Format) → format_refusal f ≡ 0 → in_range f ≡ true
unfolding format_refusal in_range
accepted-in_range f none = go (precision_fits f.p) (exponent_fits f.emax) none
  where
    go : (p x : Bool) → ◌≡◌ {A = ℕ} (cond (not p) 1 (cond (not x) 2 (cond (not (has_code f)) 7 0))) 0 → (p && x) ≡ true
    go true true h = refl
    go true false h = absurd (omega arith)
    go false x h = absurd (omega arith)

accepted_tested : (f : Format) → format_refusal f ≡ 0 → has_code f ≡ true
unfolding format_refusal
accepted_tested f none = go (precision_fits f.p) (exponent_fits f.emax) (has_code f) none
  where
    go : (p x c : Bool) → ◌≡◌ {A = ℕ} (cond (not p) 1 (cond (not x) 2 (cond (not c) 7 0))) 0 → c ≡ true
    go true true true h = refl
    go true true false h = absurd (omega arith)
    go true false c h = absurd (omega arith)
    go false x c h = absurd (omega arith)

pub accepted_exponent_fits : (f : Format) → format_refusal f ≡ 0 → exponent_fits f.emax ≡ true
unfolding in_range
accepted_exponent_fits f none = and_right (precision_fits f.p) (exponent_fits f.emax) (accepted-in_range f none)

pub accepted_inside : (f : Format) → format_refusal f ≡ 0 → InRange f
accepted_inside f none = in_range_bounds f (accepted-in_range f none)

-- is in range and has a code
pub accepted-has_code : (f : Format) → format_refusal f ≡ 0 → HasCode f
accepted-has_code f none = tested_has_code f (accepted_inside f none) (accepted_tested f none)

-- and every such format is accepted
pub has_code-accepted : (f : Format) → HasCode f → format_refusal f ≡ 0
unfolding format_refusal in_range
has_code-accepted f h =
    let fits = bounds_in_range f h.range in
    simp (and_left (precision_fits f.p) (exponent_fits f.emax) fits, and_right (precision_fits f.p) (exponent_fits f.emax) fits, has_code_tested f h)
