-- A call that is passed on with the format that C's numbers stand for: with an equal format it leaves the same, and what it came to is
-- reported to C by number. Assumes nothing.
use mathlib.Core.List.{List}
use mathlib.Core.Path.{◌≡◌, ap, ◌∙◌}
use Prim.Native.Nat.{ℕ}
use Rattle.std.specs.Prelude.{Result}
use Rattle.grid.specs.declared.Format.{Format}
use Rattle.reports.specs.declared.Refused.{Refused}
use Rattle.reports.specs.declared.Report.{Report}
use Rattle.reports.specs.Reports.{reported_by}

-- of rounding
pub rounding_passed : {A : Type 0} (F : Format → ℕ → ℕ → List ℕ → List ℕ → List ℕ → A) (f g : Format) → f ≡ g → (mode r : ℕ) (words xs out : List ℕ) (y : A)
    → y ≡ F f mode r words xs out → y ≡ F g mode r words xs out
rounding_passed F f g same mode r words xs out y is = is ∙ ap (λ (h : Format). F h mode r words xs out) same

pub rounding_reported : (F : Format → ℕ → ℕ → List ℕ → List ℕ → List ℕ → Report) (f g : Format) → f ≡ g → (mode r : ℕ) (words xs out : List ℕ)
    (came_to : Result Unit Refused) → reported_by came_to ≡ F f mode r words xs out → (y : Report) → y ≡ reported_by came_to
    → y ≡ F g mode r words xs out
rounding_reported F f g same mode r words xs out came_to is y by_number =
    by_number ∙ rounding_passed F f g same mode r words xs out (reported_by came_to) is

-- of packing and unpacking
pub coding_passed : {A : Type 0} (F : Format → List ℕ → List ℕ → A) (f g : Format) → f ≡ g → (xs out : List ℕ) (y : A) → y ≡ F f xs out → y ≡ F g xs out
coding_passed F f g same xs out y is = is ∙ ap (λ (h : Format). F h xs out) same

pub coding_reported : (F : Format → List ℕ → List ℕ → Report) (f g : Format) → f ≡ g → (xs out : List ℕ) (came_to : Result Unit Refused)
    → reported_by came_to ≡ F f xs out → (y : Report) → y ≡ reported_by came_to → y ≡ F g xs out
coding_reported F f g same xs out came_to is y by_number = by_number ∙ coding_passed F f g same xs out (reported_by came_to) is
