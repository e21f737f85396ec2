-- What an array call reports: a refusal that is about no place, and the lowest place whose entry is refused (document 01, "Refusal
-- numbers"), as it is computed and as a property. That the computed report has the property, and no other has it, is said by the
-- laws `first_refused_lowest` and `first_refused_only`. Assumes nothing.
use Rattle.std.specs.Prelude.{cond, List, [], ◌∷◌, ◌≡◌, ℕ, suc, ◌<◌, eqb, length, get_or, Result, Ok, Err}
use Rattle.refusals.specs.declared.Refusal.{Refusal}
use Rattle.refusals.specs.Refusals.{number_of}
use Rattle.reports.specs.declared.Refused.{Refused}
use Rattle.reports.specs.declared.Report.{Report}

-- a refusal that is about no place; and number 0, where nothing is refused
abbrev pub report : ℕ → Report
report number = record { number = number; place = 0 }

-- a refusal that is about a place
abbrev pub report_at : ℕ → ℕ → Report
report_at number place = record { number = number; place = place }

-- a refusal that is about no place
abbrev pub at_no_place : Refusal → Refused
at_no_place refusal = record { refusal = refusal; place = 0 }

-- what a call came to, by number
abbrev pub reported_by : Result Unit Refused → Report
reported_by (Ok done) = report 0
reported_by (Err refused) = report_at (number_of refused.refusal) refused.place

-- The first entry that a rule refuses: the rule gives each entry the number of its refusal, 0 for none. Answered are that number
-- and the entry's place, where the list begins at place i; or number 0 and place 0, where the rule refuses no entry.
unfoldable pub first_refused : (ℕ → ℕ) → ℕ → List ℕ → Report
first_refused refuses i [] = report 0
first_refused refuses i (x ∷ xs) = cond (eqb (refuses x) 0) (first_refused refuses (suc i) xs) (report_at (refuses x) i)

-- the rule refuses none of these entries
pub record NoneRefused (refuses : ℕ → ℕ) (xs : List ℕ) : Type 0 where
  pub accepted : (i : ℕ) → i < length xs → refuses (get_or xs i 0) ≡ 0

-- the report names the lowest place whose entry is refused, and the number of that refusal
pub record LowestRefused (refuses : ℕ → ℕ) (xs : List ℕ) (r : Report) : Type 0 where
  pub within : r.place < length xs
  pub refused : refuses (get_or xs r.place 0) ≡ r.number
  pub some : r.number ≡ 0 → ⊥
  pub before : (i : ℕ) → i < r.place → refuses (get_or xs i 0) ≡ 0
