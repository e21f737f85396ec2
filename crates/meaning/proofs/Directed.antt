-- The directed modes answer on their side of every input. Said of magnitude patterns, which are in the order of their values,
-- infinity's above all finite ones. Assumes nothing.
use mathlib.Core.Bool.{Bool, true, false, not, true≢false, false≢true}
use mathlib.Core.Path.{◌≡◌, refl, sym, ap, ◌∙◌, subst}
use mathlib.Core.Logic.{◌⊎◌, inl, inr}
use Prim.Native.Nat.{ℕ, ◌-◌, ◌/◌, ◌≤◌, ◌<◌}
use native.Mathlib.Nat.{le_refl, le_of_lt, le_of_eq, lt_of_lt_of_le, lt_of_le_of_lt}
use Rattle.laws.proofs.Orders.{below_or_not}
use Rattle.patterns.specs.declared.Kind.TheVariants.{Finite}
use Rattle.patterns.specs.Patterns.{sign, mag, infinity, kind_of, val}
use Rattle.patterns.proofs.Values.{pat_not_above, pat_not_below}
use Rattle.patterns.proofs.PatternKinds.{finite_below, finite_or_not}
use Rattle.grid.specs.declared.Format.{Format}
use Rattle.grid.specs.Formats.{InRange, step, xmax, T}
use Rattle.grid.specs.Candidates.{Candidate}
use Rattle.grid.specs.Neighbours.{lo}
use Rattle.grid.proofs.Candidates.{candidate_short}
use Rattle.grid.proofs.Neighbours.{lo_not_above, hi_above}
use Rattle.grid.proofs.Ends.{xmax_candidate, xmax-below_top}
use Rattle.magnitudes.specs.declared.Mode.{Mode}
use Rattle.magnitudes.specs.declared.Mode.TheVariants.{TowardZero, TowardPlus, TowardMinus}
use Rattle.magnitudes.specs.Modes.{takes_hi, overflows}
use Rattle.magnitudes.specs.Destinations.{taken, written, goes_to}
use Rattle.rounding.specs.Rounded.{rounded}
use Rattle.meaning.proofs.Destinations.{below-written, reached-written, taken_cases, below_goes, reached_goes, taken_candidate}
use Rattle.meaning.proofs.Answers.{specials_come_back, magnitude_answered}

module _ (f : Format) (r : InRange f) where
  -- ---- patterns of candidates

  -- a candidate below T that is not above a pattern's value is written by a pattern not above it
  written_not_above : (c m : ℕ) → Candidate f c → c < T f → c ≤ val m → written f c ≤ m
  written_not_above c m among below h =
      subst (λ (y : ℕ). y ≤ m) (sym (below-written f c below)) (pat_not_above c m (candidate_short f r c among) h)

  -- and one not below it, T among them, by a pattern not below it
  written_not_below : (c m : ℕ) → Candidate f c → m ≤ infinity → val m ≤ c → m ≤ written f c
  written_not_below c m among most h = go (below_or_not c (T f))
    where
      go : (c < T f) ⊎ (T f ≤ c) → m ≤ written f c
      go (inl below) = subst (λ (y : ℕ). m ≤ y) (sym (below-written f c below)) (pat_not_below c m (candidate_short f r c among) h)
      go (inr reached) = subst (λ (y : ℕ). m ≤ y) (sym (reached-written f c reached)) most

  -- ---- a mode that goes one way whatever the magnitude

  module _ (mode : Mode) (negative : Bool) (word m : ℕ) where
    -- lo always, and xmax from T on: no magnitude is raised
    always_lo : ((q rest G : ℕ) → takes_hi mode negative q rest G word ≡ false) → overflows mode negative ≡ false
        → goes_to f mode negative word (val m) ≤ m
    always_lo down saturates = go (below_or_not (val m) (T f))
      where
        not_above : taken f mode negative word (val m) ≤ val m
        not_above =
            taken_cases f mode negative word (val m) (λ (c : ℕ). c ≤ val m) (λ exact. le_refl (val m)) (λ e. lo_not_above f (val m))
            (λ e. absurd (false≢true (sym (down (val m / step f (val m)) (val m - lo f (val m)) (step f (val m))) ∙ e)))

        go : (val m < T f) ⊎ (T f ≤ val m) → goes_to f mode negative word (val m) ≤ m
        go (inl below) =
            subst (λ (y : ℕ). y ≤ m) (sym (below_goes f mode negative word (val m) below))
            (written_not_above (taken f mode negative word (val m)) m (taken_candidate f r mode negative word (val m) below) (lt_of_le_of_lt not_above below) not_above)
        go (inr reached) =
            subst (λ (y : ℕ). y ≤ m) (sym (reached_goes f mode negative word (val m) reached false saturates))
            (pat_not_above (xmax f) m (candidate_short f r (xmax f) (xmax_candidate f r)) (le_of_lt (lt_of_lt_of_le (xmax-below_top f r) reached)))

    -- hi always, and infinity from T on: none is lowered
    always_hi : ((q rest G : ℕ) → takes_hi mode negative q rest G word ≡ true) → overflows mode negative ≡ true → m ≤ infinity
        → m ≤ goes_to f mode negative word (val m)
    always_hi up overflow most = go (below_or_not (val m) (T f))
      where
        not_below : val m ≤ taken f mode negative word (val m)
        not_below =
            taken_cases f mode negative word (val m) (λ (c : ℕ). val m ≤ c) (λ exact. le_refl (val m))
            (λ e. absurd (true≢false (sym (up (val m / step f (val m)) (val m - lo f (val m)) (step f (val m))) ∙ e)))
            (λ e. le_of_lt (hi_above f (val m)))

        go : (val m < T f) ⊎ (T f ≤ val m) → m ≤ goes_to f mode negative word (val m)
        go (inl below) =
            subst (λ (y : ℕ). m ≤ y) (sym (below_goes f mode negative word (val m) below))
            (written_not_below (taken f mode negative word (val m)) m (taken_candidate f r mode negative word (val m) below) most not_below)
        go (inr reached) = subst (λ (y : ℕ). m ≤ y) (sym (reached_goes f mode negative word (val m) reached true overflow)) most

  module _ (mode : Mode) (word x : ℕ) where
    -- so such a mode raises no pattern's magnitude,
    always_lo_not_above : ((q rest G : ℕ) → takes_hi mode (sign x) q rest G word ≡ false) → overflows mode (sign x) ≡ false
        → mag (rounded f mode word x) ≤ mag x
    always_lo_not_above down saturates = go (finite_or_not x)
      where
        go : (kind_of x ≡ Finite) ⊎ (kind_of x ≡ Finite → ⊥) → mag (rounded f mode word x) ≤ mag x
        go (inl finite) = subst (λ (y : ℕ). y ≤ mag x) (sym (magnitude_answered f mode word x r finite)) (always_lo mode (sign x) word (mag x) down saturates)
        go (inr special) = le_of_eq (ap mag (specials_come_back f mode word x special))

    -- or lowers none
    always_hi_not_below : ((q rest G : ℕ) → takes_hi mode (sign x) q rest G word ≡ true) → overflows mode (sign x) ≡ true
        → mag x ≤ mag (rounded f mode word x)
    always_hi_not_below up overflow = go (finite_or_not x)
      where
        go : (kind_of x ≡ Finite) ⊎ (kind_of x ≡ Finite → ⊥) → mag x ≤ mag (rounded f mode word x)
        go (inl finite) =
            subst (λ (y : ℕ). mag x ≤ y) (sym (magnitude_answered f mode word x r finite))
            (always_hi mode (sign x) word (mag x) up overflow (le_of_lt (finite_below x finite)))
        go (inr special) = le_of_eq (ap mag (sym (specials_come_back f mode word x special)))

  -- ---- the three modes, for every pattern

  module _ (word x : ℕ) where
    -- toward zero makes no magnitude larger
    pub toward_zero_not_above : mag (rounded f TowardZero word x) ≤ mag x
    unfolding takes_hi overflows
    toward_zero_not_above = always_lo_not_above TowardZero word x (λ m rest G. refl) refl

    -- toward plus makes no positive magnitude smaller,
    pub toward_plus_positive : sign x ≡ false → mag x ≤ mag (rounded f TowardPlus word x)
    unfolding takes_hi overflows
    toward_plus_positive positive = always_hi_not_below TowardPlus word x (λ m rest G. ap not positive) (ap not positive)

    -- and no negative one larger
    pub toward_plus_negative : sign x ≡ true → mag (rounded f TowardPlus word x) ≤ mag x
    unfolding takes_hi overflows
    toward_plus_negative negative = always_lo_not_above TowardPlus word x (λ m rest G. ap not negative) (ap not negative)

    -- toward minus makes no positive magnitude larger,
    pub toward_minus_positive : sign x ≡ false → mag (rounded f TowardMinus word x) ≤ mag x
    unfolding takes_hi overflows
    toward_minus_positive positive = always_lo_not_above TowardMinus word x (λ m rest G. positive) positive

    -- and no negative one smaller
    pub toward_minus_negative : sign x ≡ true → mag x ≤ mag (rounded f TowardMinus word x)
    unfolding takes_hi overflows
    toward_minus_negative negative = always_hi_not_below TowardMinus word x (λ m rest G. negative) negative
