-- Where a magnitude goes: the candidate, and its pattern (document 01, "Rounding one pattern"). Magnitudes are in units of
-- 2^-1074. Assumes nothing.
use Rattle.std.specs.Prelude.{Bool, cond, ℕ, ◌-◌, ◌/◌, ltb, eqb}
use Rattle.patterns.specs.Patterns.{infinity, pat}
use Rattle.grid.specs.declared.Format.{Format}
use Rattle.grid.specs.Formats.{step, xmax, T}
use Rattle.grid.specs.Neighbours.{lo, hi}
use Rattle.magnitudes.specs.declared.Mode.{Mode}
use Rattle.magnitudes.specs.Modes.{takes_hi, overflows}

-- the candidate that a magnitude below T goes to: itself where it is one, else lo or hi as the mode picks
unfoldable pub taken : Format → Mode → Bool → ℕ → ℕ → ℕ
taken f mode negative word a =
    cond (eqb a (lo f a)) a (cond (takes_hi mode negative (a / step f a) (a - lo f a) (step f a) word) (hi f a) (lo f a))

-- the pattern of a candidate: T is written as infinity
unfoldable pub written : Format → ℕ → ℕ
written f c = cond (ltb c (T f)) (pat c) infinity

-- the pattern that a magnitude goes to: one that reaches T is not between two candidates, and its mode's overflow decides
unfoldable pub goes_to : Format → Mode → Bool → ℕ → ℕ → ℕ
goes_to f mode negative word a =
    cond (ltb a (T f)) (written f (taken f mode negative word a)) (cond (overflows mode negative) infinity (pat (xmax f)))
