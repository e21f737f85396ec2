-- A code at the top of a word, where its sign stands as binary64 has it: j bits of exponent and fraction below the sign, and s
-- spare bits below those. Assumes nothing.
use mathlib.Core.Bool.{Bool, true, false, cond}
use mathlib.Core.Path.{◌≡◌, sym, ap, ◌∙◌, subst}
use Prim.Native.Nat.{ℕ, suc, ◌+◌, ◌-◌, ◌*◌, ◌/◌, ◌%◌, ◌^◌, ◌<◌}
use native.Mathlib.Nat.{add-mul}
use native.Mathlib.Omega.{arith}
use lib.Dec.{leb}
use lib.Pow.{pow-add, pow_pos, field, shl_exact, shl-shr}
use Rattle.laws.proofs.Scales.{leb_scales}
use Rattle.patterns.specs.Patterns.{sign, mag, with_sign}
use Rattle.places.specs.Places.{high, moved_up}
use Rattle.grid.specs.declared.Format.{Format}
use Rattle.layouts.specs.Fields.{HasCode, width, negative}
use Rattle.layouts.specs.Layouts.{layout}
use Rattle.layouts.proofs.Fields.{width_fits}
use Rattle.layouts.proofs.Splits.{width_is_more, negative_is}
use Rattle.bylayout.specs.ByLayout.{code_by, lifted, fields_in}

module _ (j s : ℕ) (word : j + s ≡ 63) where
  -- the place above the fields is the sign's
  sign-place : 2 ^ j * 2 ^ s ≡ 2 ^ 63
  sign-place = sym (pow-add 2 j s) ∙ ap (λ (k : ℕ). 2 ^ k) word

  -- ---- a code read there

  -- nothing of a code is lost on the way up,
  lifted_whole : (c : ℕ) → c < 2 ^ suc j → moved_up c s ≡ c * 2 ^ s
  unfolding moved_up
  lifted_whole c fits = shl_exact (suc j) s 64 fits (omega arith)

  -- its sign is the word's,
  lifted-sign : (c : ℕ) → sign (c * 2 ^ s) ≡ leb (2 ^ j) c
  unfolding sign
  lifted-sign c = ap (λ (top : ℕ). leb top (c * 2 ^ s)) (sym sign-place) ∙ leb_scales (2 ^ j) c (2 ^ s) (pow_pos s)

  -- and its fields are what stands below that, moved down again
  lifted_fields : (c : ℕ) → high (mag (c * 2 ^ s)) s ≡ c % 2 ^ j
  unfolding high mag
  lifted_fields c =
      ap (λ (k : ℕ). c * 2 ^ s % 2 ^ k / 2 ^ s) (sym word) ∙ field (c * 2 ^ s) j s ∙ ap (λ (x : ℕ). x % 2 ^ j) (shl-shr c s)

  -- ---- a code put together there

  module _ (x n : ℕ) (fits : n < 2 ^ j) where
    -- fields leave the sign free
    lifted_magnitude : mag (moved_up n s) ≡ n * 2 ^ s
    unfolding mag moved_up
    lifted_magnitude = ap (λ (w : ℕ). w % 2 ^ 63) (shl_exact j s 64 fits (omega arith)) ∙ shl_exact j s 63 fits (omega arith)

    -- so that moved down they stand below the sign of x
    lifted_code : high (with_sign x (moved_up n s)) s ≡ cond (sign x) (2 ^ j + n) n
    unfolding high with_sign
    lifted_code = ap (λ (m : ℕ). cond (sign x) (2 ^ 63 + m) m / 2 ^ s) lifted_magnitude ∙ go (sign x)
      where
        go : (b : Bool) → cond b (2 ^ 63 + n * 2 ^ s) (n * 2 ^ s) / 2 ^ s ≡ cond b (2 ^ j + n) n
        go true =
            ap (λ (top : ℕ). (top + n * 2 ^ s) / 2 ^ s) (sym sign-place)
            ∙ ap (λ (w : ℕ). w / 2 ^ s) (sym (add-mul (2 ^ j) n (2 ^ s)))
            ∙ shl-shr (2 ^ j + n) s
        go false = shl-shr n s

-- ---- by the layout of a format

module _ (f : Format) (h : HasCode f) where
  -- the sign, the fields and the spare bits fill a word
  spare_place : width f - 1 + (layout f).spare ≡ 63
  unfolding layout
  spare_place = omega (arith, width_is_more f h, width_fits f h.range)

  -- the code of fields below the sign of x
  pub code_by_lem : (x n : ℕ) → n < 2 ^ (width f - 1) → code_by (layout f) x n ≡ cond (sign x) (2 ^ (width f - 1) + n) n
  code_by_lem x n fits = lifted_code (width f - 1) (layout f).spare spare_place x n fits

  module _ (c : ℕ) (fits : c < 2 ^ width f) where
    lifted_is : lifted (layout f) c ≡ c * 2 ^ (layout f).spare
    lifted_is = lifted_whole (width f - 1) (layout f).spare spare_place c (subst (λ (k : ℕ). c < 2 ^ k) (width_is_more f h) fits)

    -- the sign and the fields of a code
    pub sign_in : sign (lifted (layout f) c) ≡ negative f c
    sign_in = ap sign lifted_is ∙ lifted-sign (width f - 1) (layout f).spare spare_place c ∙ sym (negative_is f h c fits)

    pub fields_in_lem : fields_in (layout f) c ≡ c % 2 ^ (width f - 1)
    fields_in_lem =
        ap (λ (w : ℕ). high (mag w) (layout f).spare) lifted_is ∙ lifted_fields (width f - 1) (layout f).spare spare_place c
