-- A code in parts: its sign, and below that its exponent and fraction fields, which are read together as one number, the code's
-- remainder by 2^(k - 1). Assumes nothing.
use mathlib.Core.Bool.{Bool, true, false, cond}
use mathlib.Core.Path.{◌≡◌, sym, ap, ◌∙◌}
use mathlib.Core.Logic.{◌⊎◌, inl, inr}
use Prim.Native.Nat.{ℕ, suc, ◌+◌, ◌-◌, ◌*◌, ◌/◌, ◌%◌, ◌^◌, ◌≤◌, ◌<◌}
use native.Mathlib.Nat.{one-mul, div-eq_of_lt, mod-eq_of_lt, add-mod_left, pow-succ'}
use native.Mathlib.Omega.{arith}
use lib.Dec.{leb, eqb}
use lib.Pow.{field, mod-mod-pow}
use borrow.Author.Tests.{le-leb, lt-leb}
use Rattle.laws.proofs.Multiples.{multiples_in}
use Rattle.laws.proofs.Orders.{below_or_not}
use Rattle.grid.specs.declared.Format.{Format}
use Rattle.layouts.specs.Fields.{be, HasCode, width, negative, exponent, fraction}

module _ (f : Format) (h : HasCode f) where
  -- below the sign stand the exponent bits and the fraction bits
  pub width-below-sign : width f - 1 ≡ be f + (f.p - 1)
  unfolding width
  width-below-sign = omega (arith, h.range.p_least)

  -- and the sign is one more
  pub width_is_more : width f ≡ suc (width f - 1)
  unfolding width
  width_is_more = omega (arith, h.range.p_least)

  -- and doubles what there is
  width-with_sign : 2 ^ width f ≡ 2 * 2 ^ (width f - 1)
  width-with_sign = ap (λ (k : ℕ). 2 ^ k) width_is_more ∙ pow-succ' 2 (width f - 1)

  module _ (c : ℕ) where
    -- ---- the fields

    pub exponent_is : exponent f c ≡ c % 2 ^ (width f - 1) / 2 ^ (f.p - 1)
    unfolding exponent
    exponent_is = sym (field c (be f) (f.p - 1)) ∙ ap (λ (k : ℕ). c % 2 ^ k / 2 ^ (f.p - 1)) (sym width-below-sign)

    pub fraction_is : fraction f c ≡ c % 2 ^ (width f - 1) % 2 ^ (f.p - 1)
    unfolding fraction
    fraction_is = sym (mod-mod-pow c (be f) (f.p - 1)) ∙ ap (λ (k : ℕ). c % 2 ^ k % 2 ^ (f.p - 1)) (sym width-below-sign)

    -- ---- the sign

    negative_at : (q : ℕ) → c / 2 ^ (width f - 1) ≡ q → negative f c ≡ eqb (q % 2) 1
    unfolding negative
    negative_at q e = ap (λ (x : ℕ). eqb (x % 2) 1) e

    -- a code below 2^(k - 1) has none, and any other has one
    positive_code : c < 2 ^ (width f - 1) → negative f c ≡ false
    positive_code below = negative_at 0 (div-eq_of_lt below)

    negative_code : 2 ^ (width f - 1) ≤ c → c < 2 ^ width f → negative f c ≡ true
    negative_code reached fits =
        negative_at 1 (multiples_in d 1 c (omega (arith, one-mul d)) (omega (arith, one-mul d, width-with_sign)))
      where
        d : ℕ
        d = 2 ^ (width f - 1)

    pub negative_is : c < 2 ^ width f → negative f c ≡ leb (2 ^ (width f - 1)) c
    negative_is fits = go (below_or_not c (2 ^ (width f - 1)))
      where
        go : (c < 2 ^ (width f - 1)) ⊎ (2 ^ (width f - 1) ≤ c) → negative f c ≡ leb (2 ^ (width f - 1)) c
        go (inl below) = positive_code below ∙ sym (lt-leb (2 ^ (width f - 1)) c below)
        go (inr reached) = negative_code reached fits ∙ sym (le-leb (2 ^ (width f - 1)) c reached)

    -- ---- the code is put together of them

    pub parts_are_code : c < 2 ^ width f
        → cond (negative f c) (2 ^ (width f - 1) + c % 2 ^ (width f - 1)) (c % 2 ^ (width f - 1)) ≡ c
    parts_are_code fits = go (below_or_not c (2 ^ (width f - 1)))
      where
        d : ℕ
        d = 2 ^ (width f - 1)

        go : (c < d) ⊎ (d ≤ c) → cond (negative f c) (d + c % d) (c % d) ≡ c
        go (inl below) = ap (λ (b : Bool). cond b (d + c % d) (c % d)) (positive_code below) ∙ mod-eq_of_lt below
        go (inr reached) =
            ap (λ (b : Bool). cond b (d + c % d) (c % d)) (negative_code reached fits)
            ∙ ap (λ (x : ℕ). d + x)
            (ap (λ (x : ℕ). x % d) rest ∙ add-mod_left d (c - d) ∙ mod-eq_of_lt (omega (arith, width-with_sign)))
            ∙ sym rest
          where
            rest : c ≡ d + (c - d)
            rest = omega arith

  -- and whatever is put together of a sign and fields has these parts
  module _ (n : ℕ) (below : n < 2 ^ (width f - 1)) where
    pub parts_fit : (b : Bool) → cond b (2 ^ (width f - 1) + n) n < 2 ^ width f
    parts_fit true = omega (arith, width-with_sign)
    parts_fit false = omega (arith, width-with_sign)

    pub parts_fields : (b : Bool) → cond b (2 ^ (width f - 1) + n) n % 2 ^ (width f - 1) ≡ n
    parts_fields true = add-mod_left (2 ^ (width f - 1)) n ∙ mod-eq_of_lt below
    parts_fields false = mod-eq_of_lt below

    pub parts_sign : (b : Bool) → negative f (cond b (2 ^ (width f - 1) + n) n) ≡ b
    parts_sign true = negative_code (2 ^ (width f - 1) + n) (omega arith) (parts_fit true)
    parts_sign false = positive_code n below
