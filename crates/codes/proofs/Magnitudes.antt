-- The fields of a code and the magnitude pattern that they stand for, in both directions: numbers below infinity's fields,
-- infinity, and NaN. Assumes nothing.
use mathlib.Core.Bool.{Bool, true, false, cond}
use mathlib.Core.Path.{◌≡◌, refl, sym, ap, ap₂, ◌∙◌, subst}
use mathlib.Core.Logic.{◌⊎◌, inl, inr}
use Prim.Native.Nat.{ℕ, ◌+◌, ◌-◌, ◌*◌, ◌/◌, ◌%◌, ◌^◌, ◌≤◌, ◌<◌}
use native.Mathlib.Nat.{le_of_eq, le_of_lt, ne_of_lt, ne_of_gt, eq-zero-or-pos, add-zero, div-add-mod', lt_irrefl, lt_of_lt_of_le, eq-or-lt_of_le, mul-div_cancel, mul-mod_left, div-lt_iff_lt-mul}
use native.Mathlib.Omega.{arith}
use lib.Dec.{eqb, lit<}
use lib.Pow.{pow_pos, pow-lt}
use borrow.Author.Tests.{eq-eqb, ne_eqb}
use Rattle.laws.proofs.Multiples.{multiples_in, ones_and_one}
use Rattle.laws.proofs.Orders.{below_or_not}
use Rattle.patterns.specs.declared.Kind.{Kind}
use Rattle.patterns.specs.declared.Kind.TheVariants.{Zero, Finite, Infinity, NaN}
use Rattle.patterns.specs.Patterns.{mag, infinity, quiet_nan, kind_of, val, pat, Binary64}
use Rattle.patterns.proofs.Values.{val-pat, pat-val, val_small, binary64_finite}
use Rattle.patterns.proofs.PatternKinds.{kind_zero, kind_finite, kind_infinity}
use Rattle.grid.specs.declared.Format.{Format}
use Rattle.grid.specs.Candidates.Candidate.{nothing}
use Rattle.grid.specs.Neighbours.{held}
use Rattle.grid.proofs.Candidates.{candidate_short, top_not_above}
use Rattle.grid.proofs.Neighbours.{candidate_held}
use Rattle.grid.proofs.Ends.{top_positive}
use Rattle.layouts.specs.Fields.{be, HasCode, width, ones}
use Rattle.layouts.proofs.Splits.{width-below-sign}
use Rattle.codes.specs.Unpacking.{worth_in, magnitude_of}
use Rattle.codes.specs.Packing.{fields_of, infinity_fields, nan_fields, fields_by, has_by, in_format}
use Rattle.codes.proofs.Worth.{worth_of}
use Rattle.codes.proofs.Numbers.{Number, worth-below_top, worth_candidate, worth-held, fields_of-worth, zero_fields, row_below, fields_below, fields_number, worth_of_fields}

-- the magnitude pattern that the fields n stand for
abbrev pub magnitude_for : Format → ℕ → ℕ
magnitude_for f n = magnitude_of f (n / 2 ^ (f.p - 1)) (n % 2 ^ (f.p - 1))

-- the fields that a pattern has
abbrev pub fields_for : Format → ℕ → ℕ
fields_for f x = fields_by f (kind_of x) (val (mag x))

module _ (f : Format) (h : HasCode f) where
  abbrev row : ℕ
  row = 2 ^ (f.p - 1)

  -- ---- what fields stand for

  magnitude_at : (e m : ℕ) (b : Bool) → eqb e (ones f) ≡ b
      → magnitude_of f e m ≡ cond b (cond (eqb m 0) infinity quiet_nan) (pat (worth_in f e m))
  unfolding magnitude_of
  magnitude_at e m b t = ap (λ (u : Bool). cond u (cond (eqb m 0) infinity quiet_nan) (pat (worth_in f e m))) t

  -- below infinity's fields a number,
  pub magnitude_number : (n : ℕ) → n < infinity_fields f → magnitude_for f n ≡ pat (worth_of f n)
  unfolding infinity_fields
  magnitude_number n below =
      magnitude_at (n / row) (n % row) false
      (ne_eqb (n / row) (ones f) (ne_of_lt ((div-lt_iff_lt-mul (pow_pos (f.p - 1))).1 below)))

  -- at them infinity,
  pub magnitude_infinity : magnitude_for f (infinity_fields f) ≡ infinity
  unfolding infinity_fields
  magnitude_infinity =
      magnitude_at (ones f * row / row) (ones f * row % row) true
      (eq-eqb (ones f * row / row) (ones f) (mul-div_cancel (ones f) (pow_pos (f.p - 1))))
      ∙ ap (λ (m : ℕ). cond (eqb m 0) infinity quiet_nan) (mul-mod_left (ones f) row)

  -- Above them there is room for all fractions of NaNs,
  pub infinity_fields_fit : infinity_fields f + row ≡ 2 ^ (width f - 1)
  unfolding infinity_fields ones
  infinity_fields_fit = ones_and_one (be f) (f.p - 1) ∙ ap (λ (k : ℕ). 2 ^ k) (sym (width-below-sign f h))

  -- the one that a NaN is packed to among them,
  pub nan_fields_above : infinity_fields f < nan_fields f
  unfolding nan_fields
  nan_fields_above = omega (arith, pow_pos (f.p - 2))

  pub nan_fields_fit : nan_fields f < 2 ^ (width f - 1)
  unfolding nan_fields
  nan_fields_fit = omega (arith, infinity_fields_fit, pow-lt {i = f.p - 2} {j = f.p - 1} (omega (arith, h.range.p_least)))

  -- and all of these stand for NaN.
  pub magnitude_nan : (n : ℕ) → infinity_fields f < n → n < 2 ^ (width f - 1) → magnitude_for f n ≡ quiet_nan
  unfolding infinity_fields
  magnitude_nan n above fits =
      magnitude_at (n / row) (n % row) true (eq-eqb (n / row) (ones f) last)
      ∙ ap (λ (b : Bool). cond b infinity quiet_nan) (ne_eqb (n % row) 0 some)
    where
      last : n / row ≡ ones f
      last = multiples_in row (ones f) n (le_of_lt above) (subst (λ (x : ℕ). n < x) (sym infinity_fields_fit) fits)

      some : n % row ≡ 0 → ⊥
      some none =
          lt_irrefl n
          (subst (λ (x : ℕ). x < n)
          (sym (ap₂ (λ (q m : ℕ). q * row + m) last none ∙ add-zero (ones f * row)) ∙ div-add-mod' n row) above)

  -- ---- what a pattern's fields are, and whether the format has it

  module _ (x : ℕ) where
    fields_by_kind : (k : Kind) → k ≡ kind_of x → fields_for f x ≡ fields_by f k (val (mag x))
    fields_by_kind k e = ap (λ (t : Kind). fields_by f t (val (mag x))) (sym e)

    has_by_kind : (k : Kind) → k ≡ kind_of x → in_format f x ≡ has_by f k (val (mag x))
    unfolding in_format
    has_by_kind k e = ap (λ (t : Kind). has_by f t (val (mag x))) (sym e)

    -- a number below infinity: 0 is no exception
    module _ (below : mag x < infinity) where
      zero-value : mag x ≡ 0 → 0 ≡ val (mag x)
      zero-value none = sym (ap val none ∙ val_small 0 (lit< tt))

      number_fields : fields_for f x ≡ fields_of f (val (mag x))
      unfolding fields_by
      number_fields = go (eq-zero-or-pos (mag x))
        where
          go : (mag x ≡ 0) ⊎ (0 < mag x) → fields_for f x ≡ fields_of f (val (mag x))
          go (inl none) =
              fields_by_kind Zero (kind_zero x (mag x) refl none) ∙ sym (zero_fields f h) ∙ ap (fields_of f) (zero-value none)
          go (inr some) = fields_by_kind Finite (kind_finite x (mag x) refl (ne_of_gt some) below)

      pub number_has : in_format f x ≡ held f (val (mag x))
      unfolding has_by
      number_has = go (eq-zero-or-pos (mag x))
        where
          go : (mag x ≡ 0) ⊎ (0 < mag x) → in_format f x ≡ held f (val (mag x))
          go (inl none) =
              has_by_kind Zero (kind_zero x (mag x) refl none)
              ∙ sym (candidate_held f h.range 0 (nothing refl) (top_positive f h.range))
              ∙ ap (held f) (zero-value none)
          go (inr some) = has_by_kind Finite (kind_finite x (mag x) refl (ne_of_gt some) below)

    -- infinity
    module _ (at : mag x ≡ infinity) where
      infinite : Infinity ≡ kind_of x
      infinite = kind_infinity x (mag x) refl (λ (none : mag x ≡ 0). omega arith) (le_of_eq (sym at)) at

      infinity_fields_lem : fields_for f x ≡ infinity_fields f
      unfolding fields_by
      infinity_fields_lem = fields_by_kind Infinity infinite

      pub infinity_has : in_format f x ≡ true
      unfolding has_by
      infinity_has = has_by_kind Infinity infinite

    -- NaN
    module _ (nan : kind_of x ≡ NaN) where
      pub nan_fields_lem : fields_for f x ≡ nan_fields f
      unfolding fields_by
      nan_fields_lem = fields_by_kind NaN (sym nan)

      pub nan_has : in_format f x ≡ true
      unfolding has_by
      nan_has = has_by_kind NaN (sym nan)

  -- ---- from fields to the pattern and back

  module _ (n : ℕ) (number : Number f n) where
    -- a number's pattern is binary64's for what the fields are worth
    module _ (below : n < infinity_fields f) where
      worth_binary64 : Binary64 (worth_of f n)
      worth_binary64 =
          record {
            short = candidate_short f h.range (worth_of f n) (worth_candidate f h n below number);
            below = lt_of_lt_of_le (worth-below_top f h n below) (top_not_above f h.range);
          }

      pub magnitude_finite : magnitude_for f n < infinity
      magnitude_finite =
          subst (λ (m : ℕ). m < infinity) (sym (magnitude_number n below)) (binary64_finite (worth_of f n) worth_binary64)

      pub magnitude_value : val (magnitude_for f n) ≡ worth_of f n
      magnitude_value = ap val (magnitude_number n below) ∙ val-pat (worth_of f n) worth_binary64.short

    module _ (most : n ≤ infinity_fields f) where
      -- so fields up to infinity's stand for a pattern up to infinity's,
      magnitude_most : magnitude_for f n ≤ infinity
      magnitude_most = go (eq-or-lt_of_le most)
        where
          go : (n ≡ infinity_fields f) ⊎ (n < infinity_fields f) → magnitude_for f n ≤ infinity
          go (inl at) = le_of_eq (ap (magnitude_for f) at ∙ magnitude_infinity)
          go (inr below) = le_of_lt (magnitude_finite below)

      module _ (x : ℕ) (is : mag x ≡ magnitude_for f n) where
        -- which the format has,
        pub stands_has : in_format f x ≡ true
        stands_has = go (eq-or-lt_of_le most)
          where
            go : (n ≡ infinity_fields f) ⊎ (n < infinity_fields f) → in_format f x ≡ true
            go (inl at) = infinity_has x (is ∙ ap (magnitude_for f) at ∙ magnitude_infinity)
            go (inr below) =
                number_has x (subst (λ (m : ℕ). m < infinity) (sym is) (magnitude_finite below))
                ∙ ap (held f) (ap val is ∙ magnitude_value below)
                ∙ worth-held f h n below number

        -- and whose fields they are
        pub stands_fields : fields_for f x ≡ n
        stands_fields = go (eq-or-lt_of_le most)
          where
            go : (n ≡ infinity_fields f) ⊎ (n < infinity_fields f) → fields_for f x ≡ n
            go (inl at) = infinity_fields_lem x (is ∙ ap (magnitude_for f) at ∙ magnitude_infinity) ∙ sym at
            go (inr below) =
                number_fields x (subst (λ (m : ℕ). m < infinity) (sym is) (magnitude_finite below))
                ∙ ap (fields_of f) (ap val is ∙ magnitude_value below)
                ∙ fields_of-worth f h n below number

    -- and fields of a code stand for a magnitude that leaves the sign bit free
    pub magnitude_fits : n < 2 ^ (width f - 1) → magnitude_for f n < 2 ^ 63
    magnitude_fits fits = go (below_or_not (infinity_fields f) n)
      where
        go : (infinity_fields f < n) ⊎ (n ≤ infinity_fields f) → magnitude_for f n < 2 ^ 63
        go (inl over) = omega (arith, magnitude_nan n over fits)
        go (inr most) = omega (arith, magnitude_most most)

  -- a pattern up to infinity's that the format has
  module _ (x : ℕ) (most : mag x ≤ infinity) (has : in_format f x ≡ true) where
    in_format_lem : mag x < infinity → held f (val (mag x)) ≡ true
    in_format_lem below = sym (number_has x below) ∙ has

    -- has fields up to infinity's
    pub fields_most : fields_for f x ≤ infinity_fields f
    fields_most = go (eq-or-lt_of_le most)
      where
        go : (mag x ≡ infinity) ⊎ (mag x < infinity) → fields_for f x ≤ infinity_fields f
        go (inl at) = le_of_eq (infinity_fields_lem x at)
        go (inr below) =
            subst (λ (n : ℕ). n ≤ infinity_fields f) (sym (number_fields x below))
            (le_of_lt (fields_below f h (val (mag x)) (in_format_lem below)))

    -- that are a number,
    pub fields_are_number : Number f (fields_for f x)
    fields_are_number = go (eq-or-lt_of_le most)
      where
        go : (mag x ≡ infinity) ⊎ (mag x < infinity) → Number f (fields_for f x)
        go (inl at) = subst (Number f) (sym (infinity_fields_lem x at)) (inr (inr (row_below f h)))
        go (inr below) = subst (Number f) (sym (number_fields x below)) (fields_number f h (val (mag x)) (in_format_lem below))

    -- and stand for it
    pub fields_stand : magnitude_for f (fields_for f x) ≡ mag x
    fields_stand = go (eq-or-lt_of_le most)
      where
        go : (mag x ≡ infinity) ⊎ (mag x < infinity) → magnitude_for f (fields_for f x) ≡ mag x
        go (inl at) = ap (magnitude_for f) (infinity_fields_lem x at) ∙ magnitude_infinity ∙ sym at
        go (inr below) =
            ap (magnitude_for f) (number_fields x below)
            ∙ magnitude_number (fields_of f (val (mag x))) (fields_below f h (val (mag x)) (in_format_lem below))
            ∙ ap pat (worth_of_fields f h (val (mag x)) (in_format_lem below))
            ∙ pat-val (mag x)
