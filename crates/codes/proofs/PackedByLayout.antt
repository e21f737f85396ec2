-- A pattern packed by its format's layout is packed as it is meant. Assumes nothing.
use mathlib.Core.Bool.{Bool, true, false, cond, ◌&&◌}
use mathlib.Core.Path.{◌≡◌, refl, sym, ap, ap₂, ◌∙◌}
use mathlib.Core.Logic.{◌⊎◌, inl, inr}
use Prim.Native.Nat.{ℕ, suc, ◌+◌, ◌-◌, ◌*◌, ◌/◌, ◌%◌, ◌^◌, ◌≤◌, ◌<◌}
use native.Mathlib.Nat.{lt_of_lt_of_le, lt_trans, add_comm, mul_assoc, mul-add-div_right, mul-add-mod_self_right, div-add-mod', mod-eq_of_lt}
use native.Mathlib.Omega.{arith}
use lib.Dec.{ltb, eqb}
use lib.Pow.{pow_pos, pow_mono}
use lib.Ieee.{size}
use borrow.Author.Tests.{lt-ltb, le-ltb}
use Rattle.laws.proofs.Orders.{below_or_not, eqb_alike}
use Rattle.laws.proofs.Scales.{zeros_add, scale_div, eqb_scales}
use Rattle.laws.proofs.Tests.{and_asked}
use Rattle.patterns.specs.declared.Kind.{Kind}
use Rattle.patterns.specs.declared.Kind.TheVariants.{Zero, Finite, Infinity, NaN}
use Rattle.patterns.specs.Patterns.{sign, mag, kind_of, val, ex, sig, digits_of, pat}
use Rattle.places.specs.Places.{high, low}
use Rattle.patterns.proofs.Values.{val_product, digits_normal, pattern_below}
use Rattle.patterns.proofs.Powers.{pat_power}
use Rattle.grid.specs.declared.Format.{Format}
use Rattle.grid.specs.Formats.{InRange, emin, etop, zeta_exp, step_exp, step, smallest_normal, T}
use Rattle.grid.specs.Neighbours.{lo, held}
use Rattle.grid.proofs.Steps.{emin_normal, etop_above}
use Rattle.grid.proofs.Places.{smallest_normal_at, digits-below_normal, digits_from_normal, normal_place, small_place}
use Rattle.grid.proofs.Candidates.{top_short}
use Rattle.layouts.specs.Fields.{HasCode, width}
use Rattle.layouts.specs.Layouts.{layout}
use Rattle.layouts.proofs.Fields.{width_fits}
use Rattle.codes.specs.Packing.{fields_of, infinity_fields, nan_fields, fields_by, code_of, has_by, in_format}
use Rattle.bylayout.specs.Answers.{Packed, as_code, no_code}
use Rattle.bylayout.specs.ByLayout.{depth, held_by, finite_fields, code_by, has_as, fields_as, packed_by}
use Rattle.bylayout.proofs.Packings.{held_small, fields_small, fields_normal}
use Rattle.codes.specs.Calls.{packed}
use Rattle.codes.proofs.Lifts.{code_by_lem}
use Rattle.codes.proofs.Numbers.{fields_below}
use Rattle.codes.proofs.Magnitudes.{infinity_fields_fit, nan_fields_fit}
use Rattle.codes.proofs.Parts.{coded}
use Rattle.codes.proofs.Worth.{first_moved}

module _ (f : Format) (r : InRange f) (m : ℕ) where
  -- the places below the first fields of the normal range
  abbrev cut : ℕ
  cut = 53 - f.p

  -- ---- steps at a pattern's value, where they stand at the place d of its significand

  module _ (d : ℕ) (at : d + ex m ≡ step_exp f (digits_of m)) where
    -- there are as many as the significand has above the place,
    steps_in : high (sig m) d ≡ val m / step f (val m)
    unfolding step high digits_of
    steps_in = sym (ap₂ (λ (v k : ℕ). v / 2 ^ k) (val_product m) (sym at) ∙ scale_div (sig m) d (ex m))

    -- and they are whole where it has nothing below it
    whole_steps : eqb (low (sig m) d) 0 ≡ eqb (lo f (val m)) (val m)
    unfolding lo step high low digits_of
    whole_steps =
        let s = sig m in
        let q = s / 2 ^ d in
        let split : q * 2 ^ d + s % 2 ^ d ≡ s = div-add-mod' s (2 ^ d) in
        eqb_alike (s % 2 ^ d) 0 (q * 2 ^ d) s (λ (e : s % 2 ^ d ≡ 0). omega arith) (λ (e : q * 2 ^ d ≡ s). omega arith)
        ∙ sym (eqb_scales (q * 2 ^ d) s (2 ^ ex m) (pow_pos (ex m)))
        ∙ ap₂ eqb (zeros_add q d (ex m) ∙ ap₂ (λ (n k : ℕ). n * 2 ^ k) steps_in at) (sym (val_product m))

  -- ---- what the format holds

  -- binary64's exponents are the format's with zeros behind them,
  exponents_moved : (e : ℕ) → e * 2 ^ 52 ≡ e * 2 ^ (f.p - 1) * 2 ^ cut
  exponents_moved e = ap (λ (x : ℕ). e * x) (sym (first_moved f r)) ∙ sym (mul_assoc e (2 ^ (f.p - 1)) (2 ^ cut))

  -- so that those of a pattern leave the low part to its significand
  low_of_significand : low m cut ≡ low (sig m) cut
  unfolding low
  low_of_significand =
      let split : m ≡ ex m * 2 ^ 52 + sig m = omega arith in
      ap (λ (x : ℕ). x % 2 ^ cut) (split ∙ ap (λ (x : ℕ). x + sig m) (exponents_moved (ex m)))
      ∙ mul-add-mod_self_right (ex m * 2 ^ (f.p - 1)) (2 ^ cut) (sig m)

  below_top : ltb m (pat (T f)) ≡ ltb (val m) (T f)
  below_top = pattern_below m (T f) (top_short f r)

  -- what is below the normal range is below T
  small_below_top : m < pat (smallest_normal f) → ltb (val m) (T f) ≡ true
  unfolding T
  small_below_top small =
      let least = emin_normal f r in
      let above = etop_above f r in
      let top = pat_power (etop f) (omega arith) in
      sym below_top ∙ lt-ltb m (pat (T f)) (omega (arith, smallest_normal_at f r))

  held_by-layout : held_by (layout f) m ≡ held f (val m)
  unfolding layout held_by held
  held_by-layout = go (below_or_not m (pat (smallest_normal f)))
    where
      d : ℕ
      d = depth (zeta_exp f) m

      go : (m < pat (smallest_normal f)) ⊎ (pat (smallest_normal f) ≤ m) → held_by (layout f) m ≡ held f (val m)
      go (inl small) =
          sym (held_small (layout f) m small (sig m) refl d refl (low (sig m) d) refl)
          ∙ whole_steps d (small_place f r m (digits-below_normal f r m small))
          ∙ and_asked (ltb (val m) (T f)) (eqb (lo f (val m)) (val m)) (small_below_top small)
      go (inr normal) =
          ap (λ (b : Bool). cond b (eqb (low (sig m) d) 0) (ltb m (pat (T f)) && eqb (low m cut) 0))
          (le-ltb m (pat (smallest_normal f)) normal)
          ∙ ap₂ ◌&&◌ below_top
          (ap (λ (x : ℕ). eqb x 0) low_of_significand ∙ whole_steps cut (normal_place f r m (digits_from_normal f r m normal)))

  -- ---- the fields of what it holds

  small_fields : m < pat (smallest_normal f) → high (sig m) (depth (zeta_exp f) m) ≡ fields_of f (val m)
  unfolding fields_of digits_of
  small_fields small =
      let few : size (val m) ≤ emin f = digits-below_normal f r m small in
      let none : size (val m) - suc (emin f) ≡ 0 = omega arith in
      let steps = steps_in (depth (zeta_exp f) m) (small_place f r m few) in
      steps ∙ sym (ap (λ (k : ℕ). k * 2 ^ (f.p - 1) + val m / step f (val m)) none ∙ omega arith)

  -- In the normal range a pattern counts last places from the smallest normal number on, which has the first fields: in its
  -- exponent those of the whole binades between, and in its significand those of its own.
  normal_fields : pat (smallest_normal f) ≤ m → high (m - pat (smallest_normal f)) cut + 2 ^ (f.p - 1) ≡ fields_of f (val m)
  unfolding fields_of high digits_of
  normal_fields normal =
      let first = 2 ^ (f.p - 1) in
      let d = 2 ^ cut in
      let some = pow_pos cut in
      let above = m - pat (smallest_normal f) in
      let binades = size (val m) - suc (emin f) in
      let large = digits_from_normal f r m normal in
      let start = smallest_normal_at f r in
      let least = emin_normal f r in
      let digits = digits_normal m (omega arith) in
      let counted : first * d + above ≡ binades * first * d + sig m = omega (arith, first_moved f r, exponents_moved binades) in
      add_comm (above / d) first
      ∙ sym (mul-add-div_right some first above)
      ∙ ap (λ (x : ℕ). x / d) counted
      ∙ mul-add-div_right some (binades * first) (sig m)
      ∙ ap (λ (q : ℕ). binades * first + q) (steps_in cut (normal_place f r m large))

module _ (f : Format) (h : HasCode f) where
  -- all fields leave the sign free
  infinity-below : infinity_fields f < 2 ^ (width f - 1)
  infinity-below = omega (arith, infinity_fields_fit f h, pow_pos (f.p - 1))

  module _ (m : ℕ) (in_format_lem : held f (val m) ≡ true) where
    finite_fits : fields_of f (val m) < 2 ^ (width f - 1)
    finite_fits = lt_trans (fields_below f h (val m) in_format_lem) infinity-below

    -- so a word holds them
    word_holds : fields_of f (val m) < 2 ^ 64
    word_holds = lt_of_lt_of_le finite_fits (pow_mono {i = width f - 1} {j = 64} (omega (arith, width_fits f h.range)))

    fields_by-layout : finite_fields (layout f) m ≡ fields_of f (val m)
    unfolding layout
    fields_by-layout = go (below_or_not m (pat (smallest_normal f)))
      where
        d : ℕ
        d = depth (zeta_exp f) m

        above : ℕ
        above = high (m - pat (smallest_normal f)) (53 - f.p)

        go : (m < pat (smallest_normal f)) ⊎ (pat (smallest_normal f) ≤ m) → finite_fields (layout f) m ≡ fields_of f (val m)
        go (inl small) =
            sym (fields_small (layout f) m small (sig m) refl d refl (high (sig m) d) refl) ∙ small_fields f h.range m small
        go (inr normal) =
            sym (fields_normal (layout f) m normal above refl ((above + 2 ^ (f.p - 1)) % 2 ^ 64) refl)
            ∙ ap (λ (n : ℕ). n % 2 ^ 64) (normal_fields f h.range m normal)
            ∙ mod-eq_of_lt word_holds

  -- ---- the code

  module _ (x : ℕ) where
    -- of fields, under the sign of x
    abbrev answer : ℕ → Packed
    answer n = as_code (coded f (sign x) n)

    abbrev a : ℕ
    a = val (mag x)

    -- what the code answers, by what the pattern is
    abbrev by_kind : Kind → Packed
    by_kind k = cond (has_as (layout f) k (mag x)) (as_code (code_by (layout f) x (fields_as (layout f) k (mag x)))) (no_code 8)

    -- a finite pattern is packed or refused,
    finite_by_layout : (b : Bool) → held f a ≡ b → by_kind Finite ≡ cond b (answer (fields_of f a)) (no_code 8)
    unfolding has_as fields_as
    finite_by_layout b tested = ap by_test (held_by-layout f h.range (mag x) ∙ tested) ∙ go b tested
      where
        by_test : Bool → Packed
        by_test b = cond b (as_code (code_by (layout f) x (finite_fields (layout f) (mag x)))) (no_code 8)

        go : (b : Bool) → held f a ≡ b → by_test b ≡ cond b (answer (fields_of f a)) (no_code 8)
        go true t =
            let fits = finite_fits (mag x) t in
            ap as_code (ap (code_by (layout f) x) (fields_by-layout (mag x) t) ∙ code_by_lem f h x (fields_of f a) fits)
        go false t = refl

    -- and any other is packed
    kind_by_layout : (k : Kind) → by_kind k ≡ cond (has_by f k a) (answer (fields_by f k a)) (no_code 8)
    unfolding layout has_as fields_as has_by fields_by infinity_fields nan_fields
    kind_by_layout Zero = ap as_code (code_by_lem f h x 0 (pow_pos (width f - 1)))
    kind_by_layout Finite = finite_by_layout (held f a) refl
    kind_by_layout Infinity = ap as_code (code_by_lem f h x (infinity_fields f) infinity-below)
    kind_by_layout NaN = ap as_code (code_by_lem f h x (nan_fields f) (nan_fields_fit f h))

    pub packed_by-layout : packed_by (layout f) x ≡ packed f x
    unfolding packed_by packed in_format code_of
    packed_by-layout = kind_by_layout (kind_of x)
