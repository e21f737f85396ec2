-- Closed cases that hold the definition of the lowest refused place to document 01's words. Assumes nothing.
use mathlib.Core.List.{[], ◌∷◌, map}
use mathlib.Core.Path.{◌≡◌, refl}
use Prim.Native.Nat.{ℕ}
use Rattle.reports.specs.Reports.{report, report_at, first_refused}

-- a rule that gives each entry itself as the number of its refusal
itself : ℕ → ℕ
itself x = x

-- nothing, no bad entry, and bad ones at the first place, at the last, and at several, of which the lowest decides
lowest_places : map (first_refused itself 0)
    ([]
    ∷ (0 ∷ 0 ∷ [])
    ∷ (9 ∷ 0 ∷ 10 ∷ [])
    ∷ (0 ∷ 0 ∷ 8 ∷ [])
    ∷ (0 ∷ 10 ∷ 9 ∷ 0 ∷ 10 ∷ [])
    ∷ [])
    ≡ report 0
    ∷ report 0
    ∷ report_at 9 0
    ∷ report_at 8 2
    ∷ report_at 10 1
    ∷ []
unfolding first_refused itself
lowest_places = refl
