-- Words that are alike to a mode give the same answer: only modes 7 and 8 look at the word, and mode 7 at its last r bits.
-- Assumes nothing.
use mathlib.Core.Bool.{Bool, cond}
use mathlib.Core.Path.{◌≡◌, refl, ap}
use Prim.Native.Nat.{ℕ, ◌+◌, ◌-◌, ◌/◌, ◌^◌}
use lib.Dec.{leb, ltb, eqb}
use Rattle.patterns.specs.Patterns.{sign, mag, infinity, kind_of, val, pat}
use Rattle.grid.specs.declared.Format.{Format}
use Rattle.grid.specs.Formats.{step, xmax, T}
use Rattle.grid.specs.Neighbours.{lo, hi}
use Rattle.magnitudes.specs.declared.Mode.{Mode}
use Rattle.magnitudes.specs.declared.Mode.TheVariants.{TiesToEven, TiesToZero, TiesAway, TowardZero, TowardPlus, TowardMinus, ToOdd, Stochastic, EvenChance}
use Rattle.magnitudes.specs.Modes.{K, takes_hi, overflows}
use Rattle.magnitudes.specs.Destinations.{taken, written, goes_to}
use Rattle.rounding.specs.Rounded.{answer_to, rounded}
use Rattle.meaning.specs.Facts.{Alike}

-- a mode chooses the same by two words that are alike to it
pub choice_reads :
    (mode : Mode) (negative : Bool) (m rest step v w : ℕ) → Alike mode v w
    → takes_hi mode negative m rest step v ≡ takes_hi mode negative m rest step w
unfolding takes_hi
choice_reads TiesToEven negative m rest step v w e = refl
choice_reads TiesToZero negative m rest step v w e = refl
choice_reads TiesAway negative m rest step v w e = refl
choice_reads TowardZero negative m rest step v w e = refl
choice_reads TowardPlus negative m rest step v w e = refl
choice_reads TowardMinus negative m rest step v w e = refl
choice_reads ToOdd negative m rest step v w e = refl
choice_reads (Stochastic r) negative m rest step v w e = ap (λ (x : ℕ). leb (2 ^ r) (K r rest step + x)) (e.random r refl)
choice_reads EvenChance negative m rest step v w e = ap (λ (x : ℕ). eqb x 1) (e.last refl)

-- the candidate that is taken
taken_reads : (f : Format) (mode : Mode) (negative : Bool) (v w a : ℕ) → Alike mode v w
    → taken f mode negative v a ≡ taken f mode negative w a
unfolding taken
taken_reads f mode negative v w a same =
    ap (λ (b : Bool). cond (eqb a (lo f a)) a (cond b (hi f a) (lo f a))) (choice_reads mode negative (a / step f a) (a - lo f a) (step f a) v w same)

-- the answer, for every format, mode and pattern
pub answer_reads : (f : Format) (mode : Mode) (v w x : ℕ) → Alike mode v w → rounded f mode v x ≡ rounded f mode w x
unfolding rounded goes_to
answer_reads f mode v w x same =
    let a = val (mag x) in
    ap (λ (c : ℕ). answer_to (kind_of x) x (cond (ltb a (T f)) (written f c) (cond (overflows mode (sign x)) infinity (pat (xmax f)))))
    (taken_reads f mode (sign x) v w a same)
