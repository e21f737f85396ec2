-- Stochastic rounding of an input up to xmax, one random number at a time: the answer stands for lo or hi as K + u says, with the
-- input's sign, and is never infinite. Assumes nothing.
use mathlib.Core.Bool.{Bool, true, false, cond, false≢true}
use mathlib.Core.Path.{◌≡◌, refl, sym, ap, ap₂, ◌∙◌, subst}
use mathlib.Core.Logic.{◌⊎◌, inl, inr}
use Prim.Native.Nat.{ℕ, ◌+◌, ◌-◌, ◌^◌, ◌≤◌, ◌<◌, zero-le}
use native.Mathlib.Nat.{le_trans, le_of_eq, le_of_lt, lt_trans, lt_of_lt_of_le, lt_of_le_of_lt, lt_irrefl, sub_self, eq-or-lt_of_le, eq-zero-or-pos, ne_of_gt, div-lt_iff_lt-mul, mul-lt-mul_of_pos_left}
use native.Mathlib.Omega.{arith}
use lib.Dec.{leb, lit<}
use lib.Pow.{pow_pos}
use borrow.Author.Tests.{lt-leb}
use Rattle.grid.specs.declared.Format.{Format}
use Rattle.patterns.specs.declared.Kind.{Kind}
use Rattle.patterns.specs.declared.Kind.TheVariants.{Zero, Finite, Infinity, NaN}
use Rattle.patterns.specs.Patterns.{sign, mag, with_sign, infinity, kind_of, val}
use Rattle.grid.specs.Formats.{InRange, step, xmax, T}
use Rattle.grid.specs.Candidates.{Candidate}
use Rattle.grid.specs.Candidates.Candidate.{nothing}
use Rattle.grid.specs.Neighbours.{lo, hi}
use Rattle.patterns.proofs.Values.{val_small, val_order, val-infinity, val-pat}
use Rattle.patterns.proofs.PatternKinds.{kind_zero, kind_finite, finite_positive}
use Rattle.patterns.proofs.Signs.{magnitude_with_sign, magnitude_is}
use Rattle.grid.proofs.Candidates.{candidate_whole, candidate_short, top_not_above}
use Rattle.grid.proofs.Neighbours.{lo_not_above, hi_above, lo_candidate, hi_candidate, hi_is_hi}
use Rattle.grid.proofs.Ends.{xmax_whole, xmax-below_top, xmax_candidate}
use Rattle.magnitudes.specs.declared.Mode.TheVariants.{Stochastic}
use Rattle.magnitudes.specs.Modes.{K, u}
use Rattle.magnitudes.specs.Destinations.{written}
use Rattle.magnitudes.proofs.Choices.{u-below, no_shares}
use Rattle.rounding.specs.Rounded.{rounded}
use Rattle.meaning.proofs.Destinations.{below-written, written-most}
use Rattle.meaning.proofs.Answers.{specials_come_back, sign_kept, stochastic_answer}
use Rattle.meaning.specs.Totals.{magnitude_in, signed, number_in, rest}

-- ---- patterns up to xmax

-- whether a kind is a number: zero or finite
abbrev is_number : Kind → Bool
is_number Zero = true
is_number Finite = true
is_number Infinity = false
is_number NaN = false

module _ (f : Format) (inside : InRange f) (x : ℕ) (most : magnitude_in x ≤ xmax f) where
  below_top : magnitude_in x < T f
  below_top = lt_of_le_of_lt most (xmax-below_top f inside)

  -- the magnitude pattern is below infinity's, which is worth more
  below-infinity : mag x < infinity
  below-infinity =
      val_order (mag x) infinity
      (subst (λ (v : ℕ). magnitude_in x < v) (sym val-infinity) (lt_of_lt_of_le below_top (top_not_above f inside)))

  -- so the pattern is zero's or a finite number's
  zero_or_finite : (mag x ≡ 0) ⊎ (kind_of x ≡ Finite)
  zero_or_finite = go (eq-zero-or-pos (mag x))
    where
      go : (mag x ≡ 0) ⊎ (0 < mag x) → (mag x ≡ 0) ⊎ (kind_of x ≡ Finite)
      go (inl none) = inl none
      go (inr some) = inr (sym (kind_finite x (mag x) refl (ne_of_gt some) below-infinity))

  pub up_to_xmax_finite : (kind_of x ≡ Zero) ⊎ (kind_of x ≡ Finite)
  up_to_xmax_finite = go zero_or_finite
    where
      go : (mag x ≡ 0) ⊎ (kind_of x ≡ Finite) → (kind_of x ≡ Zero) ⊎ (kind_of x ≡ Finite)
      go (inl none) = inl (sym (kind_zero x (mag x) refl none))
      go (inr finite) = inr finite

  up_to_xmax-number : is_number (kind_of x) ≡ true
  up_to_xmax-number = go up_to_xmax_finite
    where
      go : (kind_of x ≡ Zero) ⊎ (kind_of x ≡ Finite) → is_number (kind_of x) ≡ true
      go (inl none) = ap is_number none
      go (inr finite) = ap is_number finite

  -- and neither an infinity nor a NaN
  pub up_to_xmax_not_infinity : kind_of x ≡ Infinity → ⊥
  up_to_xmax_not_infinity e = false≢true (sym (ap is_number e) ∙ up_to_xmax-number)

  pub up_to_xmax_not_nan : kind_of x ≡ NaN → ⊥
  up_to_xmax_not_nan e = false≢true (sym (ap is_number e) ∙ up_to_xmax-number)

-- ---- the candidate that one random number takes

-- what is left above lo is less than a step
pub rest_below : (f : Format) (a : ℕ) → rest f a < step f a
unfolding hi
rest_below f a = omega (arith, lo_not_above f a, hi_above f a)

-- a rest below the step holds fewer than all of the shares
pub shares_below : (r rest G : ℕ) → rest < G → K r rest G < 2 ^ r
unfolding K
shares_below r rest G h = (div-lt_iff_lt-mul (lt_of_le_of_lt zero-le h)).1 (mul-lt-mul_of_pos_left h (pow_pos r))

-- the candidate that a goes to with the random number n: hi where K and n make 2^r, and lo where not
unfoldable pub taken_with : Format → ℕ → ℕ → ℕ → ℕ
taken_with f r a n = cond (leb (2 ^ r) (K r (rest f a) (step f a) + n)) (hi f a) (lo f a)

-- a magnitude that is its own lo stays
taken_exact : (f : Format) (r a n : ℕ) → n < 2 ^ r → lo f a ≡ a → taken_with f r a n ≡ a
unfolding taken_with
taken_exact f r a n small exact =
    let G = step f a in
    let none : rest f a ≡ 0 = ap (λ (m : ℕ). a - m) exact ∙ sub_self a in
    let no-share : K r (rest f a) G ≡ 0 = ap (λ (t : ℕ). K r t G) none ∙ no_shares r G in
    ap (λ (b : Bool). cond b (hi f a) (lo f a)) (lt-leb (2 ^ r) (K r (rest f a) G + n) (omega arith)) ∙ exact

module _ (f : Format) (inside : InRange f) (r a n : ℕ) where
  -- what is taken is a candidate
  taken_candidate : a < T f → Candidate f (taken_with f r a n)
  unfolding taken_with
  taken_candidate below = go (leb (2 ^ r) (K r (rest f a) (step f a) + n))
    where
      go : (b : Bool) → Candidate f (cond b (hi f a) (lo f a))
      go true = hi_candidate f inside a below
      go false = lo_candidate f inside a below

  -- below xmax neither lo nor hi passes it
  neighbours_most : a < xmax f → (b : Bool) → cond b (hi f a) (lo f a) ≤ xmax f
  neighbours_most less true =
      let next = (hi_is_hi f inside a (lt_trans less (xmax-below_top f inside))).next in
      next (xmax f) (xmax_candidate f inside) (lt_of_le_of_lt (lo_not_above f a) less)
  neighbours_most less false = le_trans (lo_not_above f a) (le_of_lt less)

  -- so what is taken up to xmax does not, since xmax itself stays
  taken-most : n < 2 ^ r → a ≤ xmax f → taken_with f r a n ≤ xmax f
  unfolding taken_with
  taken-most small most = go (eq-or-lt_of_le most)
    where
      go : (a ≡ xmax f) ⊎ (a < xmax f) → taken_with f r a n ≤ xmax f
      go (inl at) = le_of_eq (taken_exact f r a n small (ap (lo f) at ∙ xmax_whole f inside ∙ sym at) ∙ at)
      go (inr less) = neighbours_most less (leb (2 ^ r) (K r (rest f a) (step f a) + n))

-- ---- the answer

-- a candidate below T that is written with any sign is read back
written_magnitude : (f : Format) → InRange f → (x c : ℕ) → Candidate f c → c < T f → magnitude_in (with_sign x (written f c)) ≡ c
written_magnitude f inside x c among below =
    ap val
    (magnitude_with_sign x (written f c) ∙ magnitude_is (written f c) (written-most f inside c among) ∙ below-written f c below)
    ∙ val-pat c (candidate_short f inside c among)

module _ (f : Format) (inside : InRange f) (r x : ℕ) (most : magnitude_in x ≤ xmax f) (word : ℕ) where
  -- the candidate that the word's random number takes
  abbrev taken : ℕ
  taken = taken_with f r (magnitude_in x) (u r word)

  within : taken ≤ xmax f
  within = taken-most f inside r (magnitude_in x) (u r word) (u-below r word) most

  -- a zero comes back, and its magnitude is its own lo
  zero_magnitude : mag x ≡ 0 → magnitude_in (rounded f (Stochastic r) word x) ≡ taken
  zero_magnitude none =
      let a = magnitude_in x in
      let special : kind_of x ≡ Finite → ⊥ = λ finite. lt_irrefl 0 (subst (λ (m : ℕ). 0 < m) none (finite_positive x finite)) in
      let whole : lo f a ≡ a = candidate_whole f inside a (nothing (ap val none ∙ val_small 0 (lit< tt))) in
      ap magnitude_in (specials_come_back f (Stochastic r) word x special)
      ∙ sym (taken_exact f r a (u r word) (u-below r word) whole)

  -- a finite number's answer is lo or hi, written with its sign
  finite_magnitude : kind_of x ≡ Finite → magnitude_in (rounded f (Stochastic r) word x) ≡ taken
  unfolding taken_with
  finite_magnitude finite =
      let below = below_top f inside x most in
      ap magnitude_in (stochastic_answer f word x finite (magnitude_in x) refl below r)
      ∙ written_magnitude f inside x taken (taken_candidate f inside r (magnitude_in x) (u r word) below)
      (lt_of_le_of_lt within (xmax-below_top f inside))

  -- the magnitude of the answer is the candidate that the word's random number takes
  answer_magnitude : magnitude_in (rounded f (Stochastic r) word x) ≡ taken_with f r (magnitude_in x) (u r word)
  answer_magnitude = go (zero_or_finite f inside x most)
    where
      go : (mag x ≡ 0) ⊎ (kind_of x ≡ Finite) → magnitude_in (rounded f (Stochastic r) word x) ≡ taken
      go (inl none) = zero_magnitude none
      go (inr finite) = finite_magnitude finite

  -- and it has the sign of the input
  pub answer_number : number_in (rounded f (Stochastic r) word x) ≡ signed (sign x) (taken_with f r (magnitude_in x) (u r word))
  unfolding number_in
  answer_number = ap₂ signed (sign_kept f (Stochastic r) word x) answer_magnitude

  -- it is not above xmax
  answer_most : magnitude_in (rounded f (Stochastic r) word x) ≤ xmax f
  answer_most = subst (λ (m : ℕ). m ≤ xmax f) (sym answer_magnitude) within

  -- so it is a zero or a finite number
  pub answer_finite : (kind_of (rounded f (Stochastic r) word x) ≡ Zero) ⊎ (kind_of (rounded f (Stochastic r) word x) ≡ Finite)
  answer_finite = up_to_xmax_finite f inside (rounded f (Stochastic r) word x) answer_most

  -- and neither an infinity nor a NaN
  pub answer_not_infinity : kind_of (rounded f (Stochastic r) word x) ≡ Infinity → ⊥
  answer_not_infinity = up_to_xmax_not_infinity f inside (rounded f (Stochastic r) word x) answer_most

  pub answer_not_nan : kind_of (rounded f (Stochastic r) word x) ≡ NaN → ⊥
  answer_not_nan = up_to_xmax_not_nan f inside (rounded f (Stochastic r) word x) answer_most
