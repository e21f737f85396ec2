-- The answer to a pattern: what comes back unaltered, that the sign is kept, that it is a candidate of the format, and whether
-- it is lo or hi for a finite number below T. Assumes nothing.
use mathlib.Core.Bool.{Bool, true, false, cond, ◌&&◌}
use mathlib.Core.Path.{◌≡◌, refl, sym, ap, ◌∙◌, subst}
use mathlib.Core.Logic.{◌⊎◌, inl, inr}
use Prim.Native.Nat.{ℕ, ◌+◌, ◌-◌, ◌/◌, ◌^◌, ◌<◌}
use native.Mathlib.Nat.{sub_self, lt_irrefl, eq-or-lt_of_le, le_of_eq}
use lib.Dec.{leb, ltb}
use borrow.Author.Tests.{lt-ltb, le-ltb}
use Rattle.patterns.specs.declared.Kind.{Kind}
use Rattle.patterns.specs.declared.Kind.TheVariants.{Zero, Finite, Infinity, NaN}
use Rattle.patterns.specs.Patterns.{sign, mag, with_sign, kind_of, val}
use Rattle.patterns.proofs.Values.{pat-val}
use Rattle.patterns.proofs.PatternKinds.{finite_or_not}
use Rattle.patterns.proofs.Signs.{with_own_sign, magnitude_with_sign, sign-with_sign, magnitude_is}
use Rattle.grid.specs.declared.Format.{Format}
use Rattle.grid.specs.Formats.{InRange, step, T}
use Rattle.grid.specs.Candidates.{Candidate}
use Rattle.grid.specs.Neighbours.{lo, hi}
use Rattle.grid.proofs.Candidates.{candidate_whole}
use Rattle.grid.proofs.Neighbours.{lo_not_above, lo_candidate, hi_candidate}
use Rattle.magnitudes.specs.declared.Mode.{Mode}
use Rattle.magnitudes.specs.declared.Mode.TheVariants.{Stochastic}
use Rattle.magnitudes.specs.Modes.{K, u, takes_hi}
use Rattle.magnitudes.specs.Destinations.{taken, written, goes_to}
use Rattle.magnitudes.proofs.Choices.{stochastic_exact}
use Rattle.rounding.specs.Rounded.{answer_to, rounded}
use Rattle.meaning.proofs.Destinations.{below-written, exact_taken, choice_taken, below_goes, written-most, written_apart, goes_to_candidate, goes_most}

module _ (f : Format) (mode : Mode) (word x : ℕ) where
  -- ---- by what the pattern is

  by_kind : (k : Kind) → kind_of x ≡ k → rounded f mode word x ≡ answer_to k x (goes_to f mode (sign x) word (val (mag x)))
  unfolding rounded
  by_kind k kind = ap (λ (t : Kind). answer_to t x (goes_to f mode (sign x) word (val (mag x)))) kind

  -- zeros, infinities and NaNs come back unaltered
  zero_comes_back : kind_of x ≡ Zero → rounded f mode word x ≡ x
  unfolding answer_to
  zero_comes_back = by_kind Zero

  infinity_comes_back : kind_of x ≡ Infinity → rounded f mode word x ≡ x
  unfolding answer_to
  infinity_comes_back = by_kind Infinity

  nan_comes_back : kind_of x ≡ NaN → rounded f mode word x ≡ x
  unfolding answer_to
  nan_comes_back = by_kind NaN

  -- a finite number keeps its sign, and its magnitude goes where the mode says
  pub finite_answer : kind_of x ≡ Finite → rounded f mode word x ≡ with_sign x (goes_to f mode (sign x) word (val (mag x)))
  unfolding answer_to
  finite_answer = by_kind Finite

  -- every pattern but a finite number comes back unaltered
  pub specials_come_back : (kind_of x ≡ Finite → ⊥) → rounded f mode word x ≡ x
  specials_come_back special = go (kind_of x) refl
    where
      go : (k : Kind) → kind_of x ≡ k → rounded f mode word x ≡ x
      go Zero kind = zero_comes_back kind
      go Finite kind = absurd (special kind)
      go Infinity kind = infinity_comes_back kind
      go NaN kind = nan_comes_back kind

  -- every answer has the input's sign, on zero too
  pub sign_kept : sign (rounded f mode word x) ≡ sign x
  sign_kept = go (finite_or_not x)
    where
      go : (kind_of x ≡ Finite) ⊎ (kind_of x ≡ Finite → ⊥) → sign (rounded f mode word x) ≡ sign x
      go (inl finite) = ap sign (finite_answer finite) ∙ sign-with_sign x (goes_to f mode (sign x) word (val (mag x)))
      go (inr special) = ap sign (specials_come_back special)

  module _ (r : InRange f) where
    -- ---- numbers of the format

    -- a finite number's answer has the magnitude that its own goes to
    pub magnitude_answered : kind_of x ≡ Finite → mag (rounded f mode word x) ≡ goes_to f mode (sign x) word (val (mag x))
    magnitude_answered finite =
        let m = goes_to f mode (sign x) word (val (mag x)) in
        ap mag (finite_answer finite) ∙ magnitude_with_sign x m ∙ magnitude_is m (goes_most f r mode (sign x) word (val (mag x)))

    -- it is a candidate of the format, with the input's sign
    pub answer_is_candidate : kind_of x ≡ Finite → (c : ℕ) × Candidate f c × (rounded f mode word x ≡ with_sign x (written f c))
    answer_is_candidate finite =
        let to = goes_to_candidate f r mode (sign x) word (val (mag x)) in
        (to.0, to.1, finite_answer finite ∙ ap (with_sign x) to.2)

    -- a pattern whose magnitude is a number of the format comes back unaltered
    pub candidate_comes_back : x < 2 ^ 64 → Candidate f (val (mag x)) → val (mag x) < T f → rounded f mode word x ≡ x
    candidate_comes_back fits among below = go (finite_or_not x)
      where
        go : (kind_of x ≡ Finite) ⊎ (kind_of x ≡ Finite → ⊥) → rounded f mode word x ≡ x
        go (inl finite) =
            let a = val (mag x) in
            finite_answer finite
            ∙ ap (with_sign x)
            (below_goes f mode (sign x) word a below
            ∙ ap (written f) (exact_taken f mode (sign x) word a (candidate_whole f r a among))
            ∙ below-written f a below
            ∙ pat-val (mag x))
            ∙ with_own_sign x fits
        go (inr special) = specials_come_back special

-- ---- finite numbers below T

module _ (f : Format) (word x : ℕ) (finite : kind_of x ≡ Finite) (a : ℕ) (is : val (mag x) ≡ a) (below : a < T f) where
  -- the answer is the candidate that is taken, with the input's sign
  answer_is : (mode : Mode) (c : ℕ) → taken f mode (sign x) word a ≡ c → rounded f mode word x ≡ with_sign x (written f c)
  answer_is mode c e =
      finite_answer f mode word x finite
      ∙ ap (λ (n : ℕ). with_sign x (goes_to f mode (sign x) word n)) is
      ∙ ap (with_sign x) (below_goes f mode (sign x) word a below ∙ ap (written f) e)

  -- it is hi where the input lies above lo and the table takes hi, and lo otherwise
  pub answer_lo_or_hi : (mode : Mode) → rounded f mode word x
      ≡ with_sign x (written f (cond (ltb (lo f a) a && takes_hi mode (sign x) (a / step f a) (a - lo f a) (step f a) word) (hi f a) (lo f a)))
  answer_lo_or_hi mode = answer_is mode (cond (ltb (lo f a) a && choice) (hi f a) (lo f a)) (go (eq-or-lt_of_le (lo_not_above f a)))
    where
      choice : Bool
      choice = takes_hi mode (sign x) (a / step f a) (a - lo f a) (step f a) word

      go : (lo f a ≡ a) ⊎ (lo f a < a) → taken f mode (sign x) word a ≡ cond (ltb (lo f a) a && choice) (hi f a) (lo f a)
      go (inl exact) =
          exact_taken f mode (sign x) word a exact
          ∙ sym (ap (λ (b : Bool). cond (b && choice) (hi f a) (lo f a)) (le-ltb (lo f a) a (le_of_eq (sym exact))) ∙ exact)
      go (inr inexact) =
          choice_taken f mode (sign x) word a inexact choice refl
          ∙ sym (ap (λ (b : Bool). cond (b && choice) (hi f a) (lo f a)) (lt-ltb (lo f a) a inexact))

  -- between two candidates it is lo or hi, as the table says
  module _ (mode : Mode) (inexact : lo f a < a) where
    pub answer_is_lo : takes_hi mode (sign x) (a / step f a) (a - lo f a) (step f a) word ≡ false
        → rounded f mode word x ≡ with_sign x (written f (lo f a))
    answer_is_lo choice = answer_is mode (lo f a) (choice_taken f mode (sign x) word a inexact false choice)

    pub answer_is_hi : takes_hi mode (sign x) (a / step f a) (a - lo f a) (step f a) word ≡ true
        → rounded f mode word x ≡ with_sign x (written f (hi f a))
    answer_is_hi choice = answer_is mode (hi f a) (choice_taken f mode (sign x) word a inexact true choice)

    -- and lo only where the table says so: the two have different patterns
    pub answer_is_lo_only : InRange f → rounded f mode word x ≡ with_sign x (written f (lo f a))
        → takes_hi mode (sign x) (a / step f a) (a - lo f a) (step f a) word ≡ false
    answer_is_lo_only r low = go (takes_hi mode (sign x) (a / step f a) (a - lo f a) (step f a) word) refl
      where
        read : (c : ℕ) → Candidate f c → mag (with_sign x (written f c)) ≡ written f c
        read c among = magnitude_with_sign x (written f c) ∙ magnitude_is (written f c) (written-most f r c among)

        go : (b : Bool) → takes_hi mode (sign x) (a / step f a) (a - lo f a) (step f a) word ≡ b
            → takes_hi mode (sign x) (a / step f a) (a - lo f a) (step f a) word ≡ false
        go false choice = choice
        go true choice =
            let same : written f (lo f a) ≡ written f (hi f a) =
            sym (read (lo f a) (lo_candidate f r a below)) ∙ ap mag (sym low ∙ answer_is_hi choice) ∙ read (hi f a) (hi_candidate f r a below) in
            absurd (lt_irrefl (written f (lo f a)) (subst (λ (y : ℕ). written f (lo f a) < y) (sym same) (written_apart f r a below)))

  -- stochastic rounding is document 01's test of K + u, with no exception for exact inputs
  pub stochastic_answer : (r : ℕ) → rounded f (Stochastic r) word x
      ≡ with_sign x (written f (cond (leb (2 ^ r) (K r (a - lo f a) (step f a) + u r word)) (hi f a) (lo f a)))
  unfolding takes_hi
  stochastic_answer r = answer_is (Stochastic r) (cond (test (a - lo f a)) (hi f a) (lo f a)) (go (eq-or-lt_of_le (lo_not_above f a)))
    where
      test : ℕ → Bool
      test rest = leb (2 ^ r) (K r rest (step f a) + u r word)

      go : (lo f a ≡ a) ⊎ (lo f a < a) → taken f (Stochastic r) (sign x) word a ≡ cond (test (a - lo f a)) (hi f a) (lo f a)
      go (inl exact) =
          let none : a - lo f a ≡ 0 = ap (λ (n : ℕ). a - n) exact ∙ sub_self a in
          exact_taken f (Stochastic r) (sign x) word a exact
          ∙ sym (ap (λ (b : Bool). cond b (hi f a) (lo f a)) (ap test none ∙ stochastic_exact r (sign x) 0 (step f a) word) ∙ exact)
      go (inr inexact) = choice_taken f (Stochastic r) (sign x) word a inexact (test (a - lo f a)) refl
