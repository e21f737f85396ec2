-- What the answer of a call says: where it is accepted, the format has a code, and the code or the pattern is the one that is
-- meant. Assumes nothing.
use mathlib.Core.Bool.{Bool, true, false, cond}
use mathlib.Core.Path.{◌≡◌, refl, sym, ap, ◌∙◌, subst}
use mathlib.Core.Logic.{◌⊎◌, inl, inr}
use Prim.Native.Nat.{ℕ, ◌^◌, ◌≤◌, ◌<◌}
use native.Mathlib.Nat.{not-le_of_lt}
use native.Mathlib.Omega.{arith}
use lib.Dec.{eqb}
use borrow.Author.Tests.{eq-eqb, eqb-true, lt-leb, le-leb}
use Rattle.laws.proofs.Orders.{below_or_not}
use Rattle.grid.specs.declared.Format.{Format}
use Rattle.layouts.specs.Fields.{HasCode, width}
use Rattle.layouts.specs.Calls.{format_refusal}
use Rattle.layouts.proofs.Refusals.{accepted-has_code, has_code-accepted, format_refusal-most}
use Rattle.codes.specs.Unpacking.{pattern_of, no_number}
use Rattle.codes.specs.Packing.{code_of, in_format}
use Rattle.bylayout.specs.Answers.{Packed, Unpacked, as_code, no_code, as_pattern, no_pattern}
use Rattle.codes.specs.Calls.{packed, unpacked, pack_one, unpack_one}

-- ---- packing

module _ (f : Format) (x : ℕ) where
  -- in a format with a code the pattern decides
  pub pack_accepted : HasCode f → pack_one f x ≡ packed f x
  unfolding pack_one
  pack_accepted h =
      ap (λ (b : Bool). cond b (packed f x) (no_code (format_refusal f))) (eq-eqb (format_refusal f) 0 (has_code-accepted f h))

  -- any other format is refused by its own number,
  pack_number_lem : (n : ℕ) → (pack_one f x).number ≡ n → (n ≡ format_refusal f) ⊎ HasCode f
  unfolding pack_one
  pack_number_lem n e = go (eqb (format_refusal f) 0) refl e
    where
      go : (b : Bool) → eqb (format_refusal f) 0 ≡ b → (cond b (packed f x) (no_code (format_refusal f))).number ≡ n
          → (n ≡ format_refusal f) ⊎ HasCode f
      go true t d = inr (accepted-has_code f (eqb-true (format_refusal f) 0 t))
      go false t d = inl (sym d)

  -- which is neither 0 nor 8
  pub pack_has_code : (pack_one f x).number ≡ 0 → HasCode f
  pack_has_code e = go (pack_number_lem 0 e)
    where
      go : (0 ≡ format_refusal f) ⊎ HasCode f → HasCode f
      go (inl none) = accepted-has_code f (sym none)
      go (inr h) = h

  pub refused-has_code : (pack_one f x).number ≡ 8 → HasCode f
  refused-has_code e = go (pack_number_lem 8 e)
    where
      go : (8 ≡ format_refusal f) ⊎ HasCode f → HasCode f
      go (inl eight) = absurd (omega (arith, format_refusal-most f))
      go (inr h) = h

  module _ (h : HasCode f) where
    -- a pattern of the format gets its code,
    pub in_format-packs : in_format f x ≡ true → pack_one f x ≡ as_code (code_of f x)
    unfolding packed
    in_format-packs has = pack_accepted h ∙ ap (λ (b : Bool). cond b (as_code (code_of f x)) (no_code 8)) has

    -- and any other refusal 8
    pub not_in_format-refused : in_format f x ≡ false → pack_one f x ≡ no_code 8
    unfolding packed
    not_in_format-refused lacks = pack_accepted h ∙ ap (λ (b : Bool). cond b (as_code (code_of f x)) (no_code 8)) lacks

  -- a pattern that packs is one of the format
  pub packs-in_format : (pack_one f x).number ≡ 0 → in_format f x ≡ true
  packs-in_format e = go (in_format f x) refl
    where
      go : (b : Bool) → in_format f x ≡ b → in_format f x ≡ true
      go true t = t
      go false t = absurd (omega (arith, e, ap (λ (u : Packed). u.number) (not_in_format-refused (pack_has_code e) t)))

  -- and its code is the one that is meant
  pub packs_code : (c : ℕ) → pack_one f x ≡ as_code c → code_of f x ≡ c
  packs_code c e =
      let none : (pack_one f x).number ≡ 0 = ap (λ (u : Packed). u.number) e in
      ap (λ (u : Packed). u.code) (sym (in_format-packs (pack_has_code none) (packs-in_format none)) ∙ e)

-- ---- unpacking

module _ (f : Format) (c : ℕ) where
  -- in a format with a code the code decides
  pub unpack_accepted : HasCode f → unpack_one f c ≡ unpacked f c
  unfolding unpack_one
  unpack_accepted h =
      ap (λ (b : Bool). cond b (unpacked f c) (no_pattern (format_refusal f))) (eq-eqb (format_refusal f) 0 (has_code-accepted f h))

  -- any other format is refused by its own number, which is not 0
  unpack_number_lem : (n : ℕ) → (unpack_one f c).number ≡ n → (n ≡ format_refusal f) ⊎ HasCode f
  unfolding unpack_one
  unpack_number_lem n e = go (eqb (format_refusal f) 0) refl e
    where
      go : (b : Bool) → eqb (format_refusal f) 0 ≡ b → (cond b (unpacked f c) (no_pattern (format_refusal f))).number ≡ n
          → (n ≡ format_refusal f) ⊎ HasCode f
      go true t d = inr (accepted-has_code f (eqb-true (format_refusal f) 0 t))
      go false t d = inl (sym d)

  pub unpack_has_code : (unpack_one f c).number ≡ 0 → HasCode f
  unpack_has_code e = go (unpack_number_lem 0 e)
    where
      go : (0 ≡ format_refusal f) ⊎ HasCode f → HasCode f
      go (inl none) = accepted-has_code f (sym none)
      go (inr h) = h

  module _ (h : HasCode f) where
    -- a code of more than k bits is refused as 9,
    pub too_large_refused : 2 ^ width f ≤ c → unpack_one f c ≡ no_pattern 9
    unfolding unpacked
    too_large_refused past = unpack_accepted h ∙ simp (le-leb (2 ^ width f) c past)

    module _ (fits : c < 2 ^ width f) where
      -- one that is no number as 10,
      pub no_number-refused : no_number f c ≡ true → unpack_one f c ≡ no_pattern 10
      unfolding unpacked
      no_number-refused none = unpack_accepted h ∙ simp (lt-leb (2 ^ width f) c fits, none)

      -- and any other gets its pattern
      pub number-unpacks : no_number f c ≡ false → unpack_one f c ≡ as_pattern (pattern_of f c)
      unfolding unpacked
      number-unpacks some = unpack_accepted h ∙ simp (lt-leb (2 ^ width f) c fits, some)

  -- a code that unpacks has k bits,
  pub unpacks-fits : (unpack_one f c).number ≡ 0 → c < 2 ^ width f
  unpacks-fits e = go (below_or_not c (2 ^ width f))
    where
      go : (c < 2 ^ width f) ⊎ (2 ^ width f ≤ c) → c < 2 ^ width f
      go (inl fits) = fits
      go (inr past) = absurd (omega (arith, e, ap (λ (u : Unpacked). u.number) (too_large_refused (unpack_has_code e) past)))

  -- is a number,
  pub unpacks-number : (unpack_one f c).number ≡ 0 → no_number f c ≡ false
  unpacks-number e = go (no_number f c) refl
    where
      go : (b : Bool) → no_number f c ≡ b → no_number f c ≡ false
      go false t = t
      go true t =
          absurd (omega (arith, e, ap (λ (u : Unpacked). u.number) (no_number-refused (unpack_has_code e) (unpacks-fits e) t)))

  -- and its pattern is the one that is meant
  pub unpacks_pattern : (x : ℕ) → unpack_one f c ≡ as_pattern x → pattern_of f c ≡ x
  unpacks_pattern x e =
      let none : (unpack_one f c).number ≡ 0 = ap (λ (u : Unpacked). u.number) e in
      ap (λ (u : Unpacked). u.pattern) (sym (number-unpacks (unpack_has_code none) (unpacks-fits none) (unpacks-number none)) ∙ e)

  -- only a code of more than k bits is refused as 9
  pub refused_too_large : (unpack_one f c).number ≡ 9 → 2 ^ width f ≤ c
  refused_too_large e = go (unpack_number_lem 9 e) (below_or_not c (2 ^ width f)) (no_number f c) refl
    where
      go : (9 ≡ format_refusal f) ⊎ HasCode f → (c < 2 ^ width f) ⊎ (2 ^ width f ≤ c) → (b : Bool) → no_number f c ≡ b
          → 2 ^ width f ≤ c
      go (inl nine) d b t = absurd (omega (arith, format_refusal-most f))
      go (inr h) (inr past) b t = past
      go (inr h) (inl fits) true t = absurd (omega (arith, e, ap (λ (u : Unpacked). u.number) (no_number-refused h fits t)))
      go (inr h) (inl fits) false t = absurd (omega (arith, e, ap (λ (u : Unpacked). u.number) (number-unpacks h fits t)))

-- where a code has 64 bits, no word has more
pub no_code_too_large : (f : Format) → width f ≡ 64 → (c : ℕ) → c < 2 ^ 64 → (unpack_one f c).number ≡ 9 → ⊥
no_code_too_large f wide c fits e = not-le_of_lt fits (subst (λ (k : ℕ). 2 ^ k ≤ c) wide (refused_too_large f c e))
