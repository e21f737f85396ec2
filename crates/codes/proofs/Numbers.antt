-- The numbers of a format and the fields of its codes are the same things: fields below those of infinity are worth a number of the
-- format, and each of its numbers has its fields. Assumes nothing.
use mathlib.Core.Bool.{true}
use mathlib.Core.Path.{◌≡◌, refl, sym, ap, ap₂, ◌∙◌, subst}
use mathlib.Core.Logic.{◌⊎◌, inl, inr}
use Prim.Native.Nat.{ℕ, suc, ◌+◌, ◌-◌, ◌*◌, ◌/◌, ◌%◌, ◌^◌, ◌≤◌, ◌<◌}
use native.Mathlib.Nat.{add-sub_of_le, not-le_of_lt, lt_irrefl, lt_of_lt_of_le, add-zero, zero-add, zero-mul, one-mul, suc-mul, pow-succ', zero-div, div-add-mod', mod-lt, mul-div_cancel, mul-mod_left, mul-le-mul_right, div-lt_iff_lt-mul, le-div_iff_mul-le, eq-zero-or-pos}
use native.Mathlib.Omega.{arith}
use lib.Arith.{digits_lt, digits_div, digits_mod}
use lib.Dec.{lit<}
use lib.Ieee.{size}
use lib.Ieee.Digits.{size-le}
use lib.Pow.{pow-add, pow_pos, shl_lt}
use Rattle.laws.proofs.Orders.{below_or_not}
use Rattle.grid.specs.declared.Format.{Format}
use Rattle.grid.specs.Formats.{emin, etop, step_exp, step, T}
use Rattle.grid.specs.Candidates.{Normal, Candidate}
use Rattle.grid.specs.Candidates.Candidate.{nothing, normal, subnormal, top}
use Rattle.grid.specs.Neighbours.{held}
use Rattle.grid.proofs.Steps.{emin-room, zeta-sub, step_normal, step_small}
use Rattle.grid.proofs.Candidates.{normal_digits}
use Rattle.grid.proofs.Neighbours.{candidate_held, held_below, held_candidate}
use Rattle.layouts.specs.Fields.{HasCode, ones}
use Rattle.layouts.proofs.Fields.{ones_are}
use Rattle.codes.specs.Unpacking.{worth_in}
use Rattle.codes.specs.Packing.{fields_of, infinity_fields}
use Rattle.codes.proofs.Worth.{worth_of, worth_increasing, worth_small, worth_large}

-- which fields are not refused as no number: with subnormals all of them, and without them 0 and those from the smallest normal
-- number on
abbrev pub Number : Format → ℕ → Type 0
Number f n = (f.sub ≡ true) ⊎ ((n ≡ 0) ⊎ (2 ^ (f.p - 1) ≤ n))

module _ (f : Format) (h : HasCode f) where
  -- how many numbers share an exponent field
  abbrev row : ℕ
  row = 2 ^ (f.p - 1)

  -- ---- T

  -- infinity's fields are worth T
  pub worth-infinity : worth_of f (infinity_fields f) ≡ T f
  unfolding infinity_fields T emin etop
  worth-infinity =
      let last : ones f ≡ suc (2 * f.emax) = omega (arith, ones_are f h) in
      let place : f.p - 1 + (2 * f.emax + emin f + 1 - f.p) ≡ etop f = omega (arith, h.range, emin-room f h.range) in
      ap₂ (worth_in f) (mul-div_cancel (ones f) (pow_pos (f.p - 1)) ∙ last) (mul-mod_left (ones f) row)
      ∙ worth_large f h.range (2 * f.emax) 0
      ∙ ap (λ (x : ℕ). x * 2 ^ (2 * f.emax + emin f + 1 - f.p)) (add-zero row)
      ∙ sym (pow-add 2 (f.p - 1) (2 * f.emax + emin f + 1 - f.p))
      ∙ ap (λ (k : ℕ). 2 ^ k) place

  -- so all below them are worth less
  pub worth-below_top : (n : ℕ) → n < infinity_fields f → worth_of f n < T f
  worth-below_top n below =
      subst (λ (x : ℕ). worth_of f n < x) worth-infinity (worth_increasing f h.range n (infinity_fields f) below)

  -- ---- from fields to numbers

  -- a significand has one digit more than a fraction
  doubled : 2 ^ f.p ≡ 2 * row
  doubled = ap (λ (k : ℕ). 2 ^ k) (omega (arith, h.range.p_least)) ∙ pow-succ' 2 (f.p - 1)

  -- an exponent field above 0 and below the last, and a fraction, are a normal number,
  normal_fields : (e m : ℕ) → e < 2 * f.emax → m < row → Normal f (worth_in f (suc e) m)
  unfolding emin etop
  normal_fields e m few small =
      record {
        m = row + m;
        e = e + emin f;
        full = omega arith;
        fits = subst (λ (x : ℕ). row + m < x) (sym doubled) (omega arith);
        not_below = omega arith;
        not_above = omega (arith, h.range);
        is = worth_large f h.range e m;
      }

  -- whose own fields they are
  normal_fields_back : (e m : ℕ) → e < 2 * f.emax → m < row → fields_of f (worth_in f (suc e) m) ≡ suc e * row + m
  unfolding fields_of step normal_fields
  normal_fields_back e m few small =
      let a = worth_in f (suc e) m in
      let place = e + emin f + 1 - f.p in
      let digits : size a ≡ suc (e + emin f) = normal_digits f h.range a (normal_fields e m few small) in
      let above : size a - suc (emin f) ≡ e = omega arith in
      let at : step_exp f (size a) ≡ place = step_normal f (size a) (omega arith) ∙ omega arith in
      ap₂ (λ (k j : ℕ). k * row + a / 2 ^ j) above at
      ∙ ap (λ (x : ℕ). e * row + x / 2 ^ place) (worth_large f h.range e m)
      ∙ ap (λ (x : ℕ). e * row + x) (mul-div_cancel (row + m) (pow_pos place))
      ∙ omega (arith, suc-mul e row)

  -- fields below the first of these are worth less than the smallest normal number,
  small_fields_below : (n : ℕ) → n < row → worth_of f n < 2 ^ emin f
  small_fields_below n small =
      let place = emin f + 1 - f.p in
      let first : f.p - 1 + place ≡ emin f = omega (arith, h.range.p_least, emin-room f h.range) in
      subst (λ (x : ℕ). x < 2 ^ emin f) (sym (worth_small f h.range n small))
      (subst (λ (k : ℕ). n * 2 ^ place < 2 ^ k) first (shl_lt (f.p - 1) place small))

  -- and are the own fields of what they are worth, where there are subnormals
  small_fields_back : (n : ℕ) → n < row → f.sub ≡ true → fields_of f (worth_of f n) ≡ n
  unfolding fields_of step
  small_fields_back n small kept =
      let a = worth_of f n in
      let place = emin f + 1 - f.p in
      let few : size a ≤ emin f = size-le a (emin f) (small_fields_below n small) in
      let none : size a - suc (emin f) ≡ 0 = omega arith in
      let at : step_exp f (size a) ≡ place = step_small f (size a) few ∙ zeta-sub f h.range kept in
      ap₂ (λ (k j : ℕ). k * row + a / 2 ^ j) none at
      ∙ ap (λ (x : ℕ). 0 * row + x / 2 ^ place) (worth_small f h.range n small)
      ∙ ap₂ (λ (x y : ℕ). x + y) (zero-mul row) (mul-div_cancel n (pow_pos place))
      ∙ zero-add n

  -- and 0 is so in every format
  zero-worth : worth_of f 0 ≡ 0
  zero-worth = worth_small f h.range 0 (pow_pos (f.p - 1)) ∙ zero-mul (2 ^ (emin f + 1 - f.p))

  pub zero_fields : fields_of f 0 ≡ 0
  unfolding fields_of
  zero_fields =
      let none : size 0 - suc (emin f) ≡ 0 = omega (arith, size-le 0 0 (lit< tt)) in
      ap₂ (λ (k q : ℕ). k * row + q) none (zero-div (step f 0)) ∙ add-zero (0 * row) ∙ zero-mul row

  -- an exponent field and a fraction as one number
  joined_worth : (e m : ℕ) → m < row → worth_of f (e * row + m) ≡ worth_in f e m
  joined_worth e m small = ap₂ (worth_in f) (digits_div e small) (digits_mod e small)

  -- every exponent field below the last is at most 2 · emax
  exponent-below : (n : ℕ) → n < infinity_fields f → n / row < suc (2 * f.emax)
  unfolding infinity_fields
  exponent-below n below =
      subst (λ (k : ℕ). n / row < k) (omega (arith, ones_are f h)) ((div-lt_iff_lt-mul (pow_pos (f.p - 1))).1 below)

  -- and above 0 where it is a normal number's
  pub exponent_some : (n : ℕ) → row ≤ n → 1 ≤ n / row
  exponent_some n reached = (le-div_iff_mul-le (pow_pos (f.p - 1))).1 (subst (λ (x : ℕ). x ≤ n) (sym (one-mul row)) reached)

  module _ (n : ℕ) (below : n < infinity_fields f) (number : Number f n) where
    -- n is 0, a fraction alone, or an exponent field and a fraction: what holds of each of them holds of n
    number_cases : (P : ℕ → Type 0) → P 0 → ((m : ℕ) → f.sub ≡ true → 0 < m → m < row → P m)
        → ((e m : ℕ) → e < 2 * f.emax → m < row → P (suc e * row + m)) → P n
    number_cases P none small large = go (below_or_not n row)
      where
        split : row ≤ n → n ≡ suc (n / row - 1) * row + n % row
        split reached = sym (div-add-mod' n row) ∙ ap (λ (k : ℕ). k * row + n % row) (omega (arith, exponent_some n reached))

        under : n < row → (n ≡ 0) ⊎ (0 < n) → Number f n → P n
        under few (inl e) t = subst P (sym e) none
        under few (inr pos) (inl kept) = small n kept pos few
        under few (inr pos) (inr (inl e)) = subst P (sym e) none
        under few (inr pos) (inr (inr reached)) = absurd (not-le_of_lt few reached)

        go : (n < row) ⊎ (row ≤ n) → P n
        go (inl few) = under few (eq-zero-or-pos n) number
        go (inr reached) =
            subst P (sym (split reached))
            (large (n / row - 1) (n % row)
            (omega (arith, exponent-below n below, exponent_some n reached)) (mod-lt n (pow_pos (f.p - 1))))

    -- they are worth a number of the format,
    pub worth_candidate : Candidate f (worth_of f n)
    worth_candidate =
        number_cases (λ (k : ℕ). Candidate f (worth_of f k)) (nothing zero-worth)
        (λ m kept pos small.
        subnormal (record { kept = kept; m = m; positive = pos; fits = small; is = worth_small f h.range m small }))
        (λ e m few small. subst (Candidate f) (sym (joined_worth (suc e) m small)) (normal (normal_fields e m few small)))

    pub worth-held : held f (worth_of f n) ≡ true
    worth-held = candidate_held f h.range (worth_of f n) worth_candidate (worth-below_top n below)

    -- whose fields they are
    pub fields_of-worth : fields_of f (worth_of f n) ≡ n
    fields_of-worth =
        number_cases (λ (k : ℕ). fields_of f (worth_of f k) ≡ k) (ap (fields_of f) zero-worth ∙ zero_fields)
        (λ m kept pos small. small_fields_back m small kept)
        (λ e m few small. ap (fields_of f) (joined_worth (suc e) m small) ∙ normal_fields_back e m few small)

  -- ---- from numbers to fields

  -- fields that are worth a
  record FieldsFor (a : ℕ) : Type 0 where
    pub n : ℕ
    pub below : n < infinity_fields f
    pub number : Number f n
    pub is : worth_of f n ≡ a

  -- an exponent field is left above the fractions, below infinity's
  pub row_below : row ≤ infinity_fields f
  unfolding infinity_fields
  row_below = subst (λ (x : ℕ). x ≤ ones f * row) (one-mul row) (mul-le-mul_right row (omega (arith, ones_are f h)))

  -- a normal number has its exponent above emin, and its significand without the first digit
  normal_has_fields : (a : ℕ) → Normal f a → FieldsFor a
  unfolding infinity_fields emin etop
  normal_has_fields a c =
      let e = c.e - emin f in
      let m = c.m - row in
      let small : m < row = omega (arith, c.full, subst (λ (x : ℕ). c.m < x) doubled c.fits) in
      record {
        n = suc e * row + m;
        below = digits_lt (omega (arith, c.not_above, h.range, ones_are f h)) small;
        number = inr (inr (omega (arith, suc-mul e row)));
        is = joined_worth (suc e) m small ∙ worth_large f h.range e m
            ∙ ap₂ (λ (x k : ℕ). x * 2 ^ k) (add-sub_of_le c.full) (omega (arith, c.not_below)) ∙ sym c.is;
      }

  -- every candidate below T has fields
  candidate_has_fields : (a : ℕ) → Candidate f a → a < T f → FieldsFor a
  candidate_has_fields a (nothing z) below =
      record { n = 0; below = lt_of_lt_of_le (pow_pos (f.p - 1)) row_below; number = inr (inl refl); is = zero-worth ∙ sym z }
  candidate_has_fields a (normal c) below = normal_has_fields a c
  candidate_has_fields a (subnormal c) below =
      record {
        n = c.m;
        below = lt_of_lt_of_le c.fits row_below;
        number = inl c.kept;
        is = worth_small f h.range c.m c.fits ∙ sym c.is;
      }
  candidate_has_fields a (top t) below = absurd (lt_irrefl a (subst (λ (x : ℕ). a < x) (sym t) below))

  module _ (a : ℕ) (in_format_lem : held f a ≡ true) where
    -- a number of the format has fields,
    own_fields : FieldsFor a
    own_fields = candidate_has_fields a (held_candidate f h.range a in_format_lem) (held_below f a in_format_lem)

    -- and these are what the rule gives
    fields_are : fields_of f a ≡ own_fields.n
    fields_are =
        ap (fields_of f) (sym own_fields.is) ∙ fields_of-worth own_fields.n own_fields.below own_fields.number

    -- so the fields by the rule are below infinity's, are a number, and are worth what they were made of
    pub fields_below : fields_of f a < infinity_fields f
    fields_below = subst (λ (k : ℕ). k < infinity_fields f) (sym fields_are) own_fields.below

    pub fields_number : Number f (fields_of f a)
    fields_number = subst (Number f) (sym fields_are) own_fields.number

    pub worth_of_fields : worth_of f (fields_of f a) ≡ a
    worth_of_fields = ap (worth_of f) fields_are ∙ own_fields.is
