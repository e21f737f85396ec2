-- A format's layout, as the code works it out, and what a format comes to. Assumes nothing.
use mathlib.Core.Bool.{Bool, true, false, cond}
use mathlib.Core.Path.{◌≡◌, refl, sym, ap, ◌∙◌, subst}
use Prim.Native.Nat.{ℕ, ◌+◌, ◌-◌, ◌*◌, ◌/◌, ◌%◌, ◌^◌, ◌≤◌, ◌<◌}
use native.Mathlib.Nat.{le_refl, lt_of_lt_of_le}
use native.Mathlib.Omega.{arith}
use lib.Dec.{eqb}
use mir.Val.{Fits}
use mir.Syntax.{w64}
use lib.Pow.{pow_mono, high, ones_lt, ones_split, shl_lt, shl_exact}
use borrow.Author.Tests.{eqb-true, eq-eqb, ne_eqb}
use Rattle.laws.proofs.Digits.{size_above}
use Rattle.laws.proofs.Words.{one_shifted, shifted_not_above}
use Rattle.std.specs.Prelude.{Result, Ok, Err}
use Rattle.refusals.specs.declared.Refusal.{Refusal}
use Rattle.refusals.specs.declared.Refusal.TheVariants.{NoCode}
use Rattle.refusals.specs.Refusals.{number_of, in_numbers, refusal_number}
use Rattle.refusals.proofs.Apart.{number_some}
use Rattle.patterns.specs.Patterns.{digits_of}
use Rattle.patterns.proofs.Values.{digits_subnormal}
use Rattle.grid.specs.declared.Format.{Format}
use Rattle.grid.specs.Formats.{exponent_fits, range_refusal, InRange, zeta_exp, smallest_normal, T, pattern_in, exponent_in}
use Rattle.grid.proofs.Ranges.{between-most}
use Rattle.grid.proofs.Landmarks.{pattern_in_range, exponent-in_range}
use Rattle.layouts.specs.declared.Layout.{Layout}
use Rattle.layouts.specs.Fields.{be, has_code, width, ones}
use Rattle.layouts.specs.Calls.{format_refusal}
use Rattle.layouts.specs.Layouts.{Laid, layout, ready, refused, laid}
use Rattle.layouts.proofs.Fields.{exponent_bits_few, exponent_bits_most, width_fits}
use Rattle.layouts.proofs.Refusals.{accepted-in_range, accepted_inside, refuses_code}

-- ---- the exponent field

module _ (f : Format) (passed : exponent_fits f.emax ≡ true) where
  pub emax_most : f.emax ≤ 1023
  unfolding exponent_fits
  emax_most = between-most 1 f.emax 1023 passed

  -- emax + 1 is small, so that its digits are a pattern's
  pub exponent_bits_are : (y : ℕ) → y ≡ digits_of (f.emax + 1) → y ≡ be f
  unfolding be
  exponent_bits_are y e = e ∙ sym (digits_subnormal (f.emax + 1) (omega (arith, emax_most)))

  module _ (bits : ℕ) (e : bits ≡ be f) where
    pub bits_most : bits ≤ 11
    bits_most = omega (arith, exponent_bits_few f emax_most)

    pub bits_some : 1 ≤ bits
    unfolding be
    bits_some = subst (λ (b : ℕ). 1 ≤ b) (sym e) (size_above (f.emax + 1) 0 (omega arith))

    pub has_code_is : (w : ℕ) → 11 < w → eqb (f.emax + 1) (1 * 2 ^ (bits - 1) % 2 ^ w) ≡ has_code f
    unfolding has_code
    has_code_is w wide =
        ap (λ (n : ℕ). eqb (f.emax + 1) n) (one_shifted w (bits - 1) (omega (arith, bits_most)) ∙ ap (λ (b : ℕ). 2 ^ (b - 1)) e)

-- ---- the numbers of a layout

-- the last code that a word moved down leaves: k ones
ones-moved_down : (k d : ℕ) → (2 ^ (k + d) - 1) / 2 ^ d ≡ 2 ^ k - 1
ones-moved_down k d = ap (λ (n : ℕ). n / 2 ^ d) (ones_split k d) ∙ high (2 ^ k - 1) d (ones_lt d)

-- an exponent field of ones, moved up to its place, fits a word
pub infinity_code_is : (w bits p : ℕ) → bits ≤ 11 → p ≤ 53 → 63 ≤ w → (1 * 2 ^ bits % 2 ^ w - 1) * 2 ^ (p - 1) % 2 ^ w ≡ (2 ^ bits - 1) * 2 ^ (p - 1)
infinity_code_is w bits p few most wide =
    ap (λ (n : ℕ). (n - 1) * 2 ^ (p - 1) % 2 ^ w) (one_shifted w bits (omega arith)) ∙ shl_exact bits (p - 1) w (ones_lt bits) (omega arith)

-- the top fraction bit stands beside it, and fits too
pub nan_code_is : (w infinity p : ℕ) → p ≤ 53 → 53 < w → infinity + 1 * 2 ^ (p - 2) % 2 ^ w ≡ infinity + 2 ^ (p - 2)
nan_code_is w infinity p most wide = ap (λ (n : ℕ). infinity + n) (one_shifted w (p - 2) (omega arith))

pub nan_code_fits : (infinity c d : ℕ) → infinity < 2 ^ 63 → c ≤ 1 → d ≤ 51 → Fits w64 (infinity + c * 2 ^ d % 2 ^ 64)
nan_code_fits infinity c d below one few = omega (arith, shifted_not_above 64 c d 0 51 (2 ^ 51) one few (le_refl (2 ^ 51)))

module _ (f : Format) (none : format_refusal f ≡ 0) (bits : ℕ) (e : bits ≡ be f) where
  range : InRange f
  range = accepted_inside f none

  -- the code's bits fit a word
  pub accepted_bits_most : bits ≤ 11
  accepted_bits_most = omega (arith, exponent_bits_most f range)

  -- infinity's code leaves the word's sign free
  pub infinity_code_below : (y : ℕ) → y ≡ (2 ^ bits - 1) * 2 ^ (f.p - 1) → y < 2 ^ 63
  infinity_code_below y is =
      subst (λ (n : ℕ). n < 2 ^ 63) (sym is)
      (lt_of_lt_of_le (shl_lt bits (f.p - 1) (ones_lt bits)) (pow_mono {i = bits + (f.p - 1)} {j = 63} (omega (arith, range, accepted_bits_most))))

  spare_is : 64 - be f - f.p ≡ 64 - width f
  unfolding width
  spare_is = omega arith

  last_is : (2 ^ 64 - 1) / 2 ^ (64 - width f) ≡ 2 ^ width f - 1
  last_is =
      let whole : width f + (64 - width f) ≡ 64 = omega (arith, width_fits f range) in
      ap (λ (k : ℕ). (2 ^ k - 1) / 2 ^ (64 - width f)) (sym whole) ∙ ones-moved_down (width f) (64 - width f)

  pub layout_is : (w : ℕ) → 53 < w → (infinity nan bottom normal top : ℕ)
      → infinity ≡ (2 ^ bits - 1) * 2 ^ (f.p - 1) → nan ≡ infinity + 2 ^ (f.p - 2)
      → bottom ≡ exponent_in f (zeta_exp f) → normal ≡ pattern_in f (smallest_normal f) → top ≡ pattern_in f (T f)
      → record {
        sub = f.sub;
        spare = 64 - bits - f.p;
        last = (2 ^ 64 - 1) / 2 ^ (64 - bits - f.p);
        cut = 53 - f.p;
        bottom = bottom;
        normal = normal;
        top = top;
        first = 1 * 2 ^ (f.p - 1) % 2 ^ w;
        infinity = infinity;
        nan = nan;
      } ≡ layout f
  unfolding layout ones
  layout_is w wide infinity nan bottom normal top i n b m t =
      let passed = accepted-in_range f none in
      simp (
        spare_is,
        last_is,
        n,
        i,
        e,
        b,
        m,
        t,
        one_shifted w (f.p - 1) (omega (arith, range)),
        exponent-in_range f true (sym passed) refl (zeta_exp f),
        pattern_in_range f true (sym passed) refl (smallest_normal f),
        pattern_in_range f true (sym passed) refl (T f),
      )

-- ---- what a format comes to

module _ (f : Format) where
  pub laid_ready : format_refusal f ≡ 0 → (l : Layout) → l ≡ layout f → ready l ≡ laid f
  unfolding laid
  laid_ready none l made = simp (none, made)

  pub laid_refused : (e : Refusal) → number_of e ≡ format_refusal f → refused (number_of e) ≡ laid f
  unfolding laid
  laid_refused e is = simp (← is, ne_eqb (number_of e) 0 (number_some e))

  pub laid_without_code : 0 ≡ range_refusal f → false ≡ has_code f → refused 7 ≡ laid f
  laid_without_code fits lacks = laid_refused NoCode (refuses_code f fits lacks)

-- and what that says of the format
module _ (f : Format) (l : Laid) (e : l ≡ laid f) where
  -- the number is the refusal's
  pub laid_number : l.number ≡ format_refusal f
  unfolding laid
  laid_number = ap (λ (y : Laid). y.number) e ∙ go (eqb (format_refusal f) 0) refl
    where
      go : (b : Bool) → eqb (format_refusal f) 0 ≡ b → (cond b (ready (layout f)) (refused (format_refusal f))).number ≡ format_refusal f
      go true t = sym (eqb-true (format_refusal f) 0 t)
      go false t = refl

  -- and where that is 0, it has the format's layout
  pub laid_layout : l.number ≡ 0 → l.layout ≡ layout f
  unfolding laid
  laid_layout none =
      ap (λ (y : Laid). y.layout) e
      ∙ ap (λ (b : Bool). (cond b (ready (layout f)) (refused (format_refusal f))).layout) (eq-eqb (format_refusal f) 0 (sym laid_number ∙ none))

-- so that a format that has no layout is refused by its own number
pub laid_refusal : (f : Format) (r : Result Layout Refusal) → in_numbers ready refused r ≡ laid f → refusal_number r ≡ format_refusal f
laid_refusal f (Ok l) e = laid_number f (ready l) e
laid_refusal f (Err d) e = laid_number f (refused (number_of d)) e
