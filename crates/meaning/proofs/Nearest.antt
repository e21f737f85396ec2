-- The three modes that round to nearest answer a nearest candidate, T among them. Assumes nothing.
use mathlib.Core.Bool.{Bool, true, false, ◌||◌, ◌&&◌, true≢false}
use mathlib.Core.Path.{◌≡◌, refl, sym, ap, ◌∙◌, subst}
use mathlib.Core.Logic.{◌⊎◌, inl, inr}
use Prim.Native.Nat.{ℕ, ◌-◌, ◌*◌, ◌/◌, ◌≤◌, ◌<◌}
use native.Mathlib.Nat.{le_of_lt, le_of_eq}
use native.Mathlib.Omega.{arith}
use lib.Dec.{ltb, eqb}
use borrow.Author.Tests.{ltb-true, ltb-false, leb-true, leb-false, eqb-true}
use Rattle.laws.proofs.Orders.{below_or_not}
use Rattle.laws.proofs.Tests.{and_left}
use Rattle.patterns.specs.declared.Kind.TheVariants.{Finite}
use Rattle.patterns.specs.Patterns.{sign, mag, with_sign, kind_of, val}
use Rattle.grid.specs.declared.Format.{Format}
use Rattle.grid.specs.Formats.{InRange, step, T}
use Rattle.grid.specs.Candidates.{Candidate}
use Rattle.grid.specs.Candidates.Candidate.{top}
use Rattle.grid.specs.Neighbours.{lo, hi}
use Rattle.grid.proofs.Candidates.{candidate_not_above_top}
use Rattle.grid.proofs.Neighbours.{lo_not_above, hi_above, lo_candidate, hi_candidate, hi_is_hi}
use Rattle.magnitudes.specs.declared.Mode.{Mode}
use Rattle.magnitudes.specs.declared.Mode.TheVariants.{TiesToEven, TiesToZero, TiesAway}
use Rattle.magnitudes.specs.Modes.{odd, takes_hi, overflows}
use Rattle.magnitudes.specs.Destinations.{taken, written, goes_to}
use Rattle.rounding.specs.Rounded.{rounded}
use Rattle.meaning.specs.Facts.{distance, Nearest, ToNearest}
use Rattle.meaning.specs.Facts.ToNearest.{ties_to_even, ties_to_zero, ties_away}
use Rattle.meaning.proofs.Destinations.{top_written, taken_cases, below_goes, reached_goes}
use Rattle.meaning.proofs.Answers.{finite_answer}

-- ---- the table's lines

-- what holds for each of the three modes holds for every mode that rounds to nearest
nearest_cases : (P : Mode → Type 0) → P TiesToEven → P TiesToZero → P TiesAway → (mode : Mode) → ToNearest mode → P mode
nearest_cases P even zero away mode (ties_to_even e) = subst P (sym e) even
nearest_cases P even zero away mode (ties_to_zero e) = subst P (sym e) zero
nearest_cases P even zero away mode (ties_away e) = subst P (sym e) away

module _ (mode : Mode) (nearest : ToNearest mode) (negative : Bool) where
  module _ (m rest G word : ℕ) where
    -- hi is taken only where the rest is at least half the step,
    hi_from_half : takes_hi mode negative m rest G word ≡ true → G ≤ 2 * rest
    unfolding takes_hi
    hi_from_half =
        nearest_cases (λ (n : Mode). takes_hi n negative m rest G word ≡ true → G ≤ 2 * rest)
        (go (ltb G (2 * rest)) refl) (λ e. le_of_lt (ltb-true G (2 * rest) e)) (leb-true G (2 * rest)) mode nearest
      where
        go : (t : Bool) → ltb G (2 * rest) ≡ t → (t || (eqb G (2 * rest) && odd m)) ≡ true → G ≤ 2 * rest
        go true over e = le_of_lt (ltb-true G (2 * rest) over)
        go false over e = le_of_eq (eqb-true G (2 * rest) (and_left (eqb G (2 * rest)) (odd m) e))

    -- lo only where it is at most half,
    lo_up_to_half : takes_hi mode negative m rest G word ≡ false → 2 * rest ≤ G
    unfolding takes_hi
    lo_up_to_half =
        nearest_cases (λ (n : Mode). takes_hi n negative m rest G word ≡ false → 2 * rest ≤ G)
        (go (ltb G (2 * rest)) refl) (ltb-false G (2 * rest)) (λ e. le_of_lt (leb-false G (2 * rest) e)) mode nearest
      where
        go : (t : Bool) → ltb G (2 * rest) ≡ t → (t || (eqb G (2 * rest) && odd m)) ≡ false → 2 * rest ≤ G
        go true over e = absurd (true≢false e)
        go false over e = ltb-false G (2 * rest) over

  -- and from T on infinity is the answer
  nearest_overflows : overflows mode negative ≡ true
  unfolding overflows
  nearest_overflows = nearest_cases (λ (n : Mode). overflows n negative ≡ true) refl refl refl mode nearest

-- ---- nearest candidates

module _ (f : Format) (r : InRange f) (a : ℕ) where
  module _ (below : a < T f) where
    -- a candidate is on one side: not above lo, or not below hi
    outside : (d : ℕ) → Candidate f d → (d ≤ lo f a) ⊎ (hi f a ≤ d)
    outside d among = go (below_or_not (lo f a) d)
      where
        go : (lo f a < d) ⊎ (d ≤ lo f a) → (d ≤ lo f a) ⊎ (hi f a ≤ d)
        go (inl over) = inr ((hi_is_hi f r a below).next d among over)
        go (inr h) = inl h

    -- lo is nearest where the rest is at most half the step,
    lo_nearest : 2 * (a - lo f a) ≤ step f a → Nearest f a (lo f a)
    unfolding hi
    lo_nearest half = record { among = lo_candidate f r a below; closest = λ d among. go d (outside d among) }
      where
        go : (d : ℕ) → (d ≤ lo f a) ⊎ (hi f a ≤ d) → distance a (lo f a) ≤ distance a d
        go d (inl h) = omega (arith, half, lo_not_above f a)
        go d (inr h) = omega (arith, half, lo_not_above f a)

    -- hi where it is at least half,
    hi_nearest : step f a ≤ 2 * (a - lo f a) → Nearest f a (hi f a)
    unfolding hi
    hi_nearest half = record { among = hi_candidate f r a below; closest = λ d among. go d (outside d among) }
      where
        go : (d : ℕ) → (d ≤ lo f a) ⊎ (hi f a ≤ d) → distance a (hi f a) ≤ distance a d
        go d (inl h) = omega (arith, half, lo_not_above f a, hi_above f a)
        go d (inr h) = omega (arith, half, lo_not_above f a, hi_above f a)

    -- and a magnitude that is its own lo is nearest to itself
    exact_nearest : lo f a ≡ a → Nearest f a a
    exact_nearest exact =
        record { among = subst (Candidate f) exact (lo_candidate f r a below); closest = λ d among. omega arith }

  -- from T on T is the nearest, as no candidate is above it
  top_nearest : T f ≤ a → Nearest f a (T f)
  top_nearest reached = record { among = top refl; closest = λ d among. omega (arith, candidate_not_above_top f r d among) }

-- ---- the answer

module _ (f : Format) (r : InRange f) (mode : Mode) (nearest : ToNearest mode) where
  -- below T the candidate that is taken is nearest
  taken_nearest : (negative : Bool) (word a : ℕ) → a < T f → Nearest f a (taken f mode negative word a)
  taken_nearest negative word a below =
      taken_cases f mode negative word a (Nearest f a)
      (exact_nearest f r a below)
      (λ e. lo_nearest f r a below (lo_up_to_half mode nearest negative (a / step f a) (a - lo f a) (step f a) word e))
      (λ e. hi_nearest f r a below (hi_from_half mode nearest negative (a / step f a) (a - lo f a) (step f a) word e))

  -- every magnitude goes to a nearest candidate's pattern
  goes_to_nearest : (negative : Bool) (word a : ℕ) → (c : ℕ) × Nearest f a c × (goes_to f mode negative word a ≡ written f c)
  goes_to_nearest negative word a = go (below_or_not a (T f))
    where
      go : (a < T f) ⊎ (T f ≤ a) → (c : ℕ) × Nearest f a c × (goes_to f mode negative word a ≡ written f c)
      go (inl below) = (taken f mode negative word a, taken_nearest negative word a below, below_goes f mode negative word a below)
      go (inr reached) =
          (T f, top_nearest f r a reached, reached_goes f mode negative word a reached true (nearest_overflows mode nearest negative) ∙ sym (top_written f))

  -- so the answer to a finite number is a nearest candidate with the input's sign
  pub nearest_answer : (word x : ℕ) → kind_of x ≡ Finite
      → (c : ℕ) × Nearest f (val (mag x)) c × (rounded f mode word x ≡ with_sign x (written f c))
  nearest_answer word x finite =
      let near = goes_to_nearest (sign x) word (val (mag x)) in
      (near.0, near.1, finite_answer f mode word x finite ∙ ap (with_sign x) near.2)
