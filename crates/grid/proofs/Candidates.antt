-- Candidates below T are the magnitudes that are whole steps of their own, and every candidate has a pattern. This file ties
-- the computed step to document 01's words for a format's numbers. Assumes nothing.
use mathlib.Core.Bool.{Bool, true, false}
use mathlib.Core.Path.{◌≡◌, refl, sym, ap, ◌∙◌, subst}
use mathlib.Core.Logic.{◌⊎◌, inl, inr}
use Prim.Native.Nat.{ℕ, suc, ◌+◌, ◌-◌, ◌*◌, ◌/◌, ◌^◌, ◌≤◌, ◌<◌, zero-le}
use native.Mathlib.Nat.{le_antisymm, le_of_lt, le_of_eq, lt_irrefl, lt_of_lt_of_le, lt_of_le_of_lt, lt_of_not-le, zero-mul, eq-zero-or-pos, le-div_iff_mul-le}
use native.Mathlib.Omega.{arith}
use lib.Arith.{le-zero}
use lib.Pow.{pow-add, pow_pos, pow_mono, shl_lt, shr_lt}
use lib.Ieee.{size}
use lib.Ieee.Digits.{size-lt, size-le, size_reaches}
use Rattle.laws.proofs.Digits.{size_shift, size-pow}
use Rattle.laws.proofs.Multiples.{multiple_whole, multiple_none, pow_whole}
use Rattle.laws.proofs.Orders.{below_or_not}
use Rattle.patterns.specs.Patterns.{Short, Binary64}
use Rattle.grid.specs.declared.Format.{Format}
use Rattle.grid.specs.Formats.{InRange, emin, etop, zeta_exp, step_exp, step, smallest_normal, T}
use Rattle.grid.specs.Candidates.{Normal, Subnormal, Candidate}
use Rattle.grid.specs.Candidates.Candidate.{nothing, normal, subnormal, top}
use Rattle.grid.specs.Neighbours.{lo}
use Rattle.grid.proofs.Steps.{emin-room, etop_above, zeta-sub, zeta_no_sub, below_top_digits, step_normal, step_small, step_keeps, step_of_power, zeta_not_above}

-- m at the place that is the step's own exponent is whole steps
whole_at : (f : Format) (c m k : ℕ) → c ≡ m * 2 ^ k → step_exp f (size c) ≡ k → lo f c ≡ c
unfolding lo step
whole_at f c m k is place =
    ap (λ (j : ℕ). c / 2 ^ j * 2 ^ j) place ∙ multiple_whole (2 ^ k) m c is

module _ (f : Format) (r : InRange f) where
  -- ---- from document 01's words to whole steps

  -- a normal number has its first digit at its exponent
  pub normal_digits : (c : ℕ) (n : Normal f c) → size c ≡ suc n.e
  normal_digits c n =
      let place = n.e + 1 - f.p in
      let all : f.p ≡ suc (f.p - 1) = omega arith in
      ap size n.is
      ∙ size_shift n.m (f.p - 1) place n.full (subst (λ (k : ℕ). n.m < 2 ^ k) all n.fits)
      ∙ omega (arith, emin-room f r)

  normal_whole : (c : ℕ) → Normal f c → lo f c ≡ c
  normal_whole c n =
      let reached : emin f < suc n.e = omega arith in
      let place : suc n.e - f.p ≡ n.e + 1 - f.p = omega arith in
      whole_at f c n.m (n.e + 1 - f.p) n.is (ap (step_exp f) (normal_digits c n) ∙ step_normal f (suc n.e) reached ∙ place)

  -- a subnormal number is below the smallest normal one
  pub subnormal_below : (c : ℕ) → Subnormal f c → c < smallest_normal f
  unfolding smallest_normal
  subnormal_below c n =
      let place = emin f + 1 - f.p in
      let first : f.p - 1 + place ≡ emin f = omega (arith, emin-room f r) in
      subst (λ (x : ℕ). x < 2 ^ emin f) (sym n.is) (subst (λ (k : ℕ). n.m * 2 ^ place < 2 ^ k) first (shl_lt (f.p - 1) place n.fits))

  subnormal_whole : (c : ℕ) → Subnormal f c → lo f c ≡ c
  unfolding smallest_normal
  subnormal_whole c n =
      whole_at f c n.m (emin f + 1 - f.p) n.is (step_small f (size c) (size-le c (emin f) (subnormal_below c n)) ∙ zeta-sub f r n.kept)

  -- a power from zeta on is whole steps of its own
  pub power_whole : (j : ℕ) → zeta_exp f ≤ j → lo f (2 ^ j) ≡ 2 ^ j
  unfolding lo step
  power_whole j h = pow_whole (step_exp f (size (2 ^ j))) j (subst (λ (s : ℕ). step_exp f s ≤ j) (sym (size-pow j)) (step_of_power f r j h))

  -- so is T
  top_whole : lo f (T f) ≡ T f
  unfolding T
  top_whole = power_whole (etop f) (le_of_lt (lt_of_le_of_lt (zeta_not_above f r) (etop_above f r)))

  -- a candidate is whole steps of its own
  pub candidate_whole : (c : ℕ) → Candidate f c → lo f c ≡ c
  unfolding lo
  candidate_whole c (nothing z) =
      multiple_whole (step f c) 0 c (z ∙ sym (zero-mul (step f c)))
  candidate_whole c (normal n) = normal_whole c n
  candidate_whole c (subnormal n) = subnormal_whole c n
  candidate_whole c (top t) = ap (lo f) t ∙ top_whole ∙ sym t

  -- T is the last candidate
  pub candidate_not_above_top : (c : ℕ) → Candidate f c → c ≤ T f
  unfolding T smallest_normal
  candidate_not_above_top c (nothing z) = subst (λ (x : ℕ). x ≤ 2 ^ etop f) (sym z) zero-le
  candidate_not_above_top c (normal n) = le_of_lt (lt_of_lt_of_le (size-lt c) (pow_mono {j = etop f} (omega (arith, normal_digits c n))))
  candidate_not_above_top c (subnormal n) = le_of_lt (lt_of_lt_of_le (subnormal_below c n) (pow_mono (le_of_lt (etop_above f r))))
  candidate_not_above_top c (top t) = le_of_eq t

  -- ---- and back

  module _ (c : ℕ) (below : c < T f) (k : ℕ) (whole : c / 2 ^ k * 2 ^ k ≡ c) where
    -- p digits of whole steps, in the normal range
    normal_of : emin f < size c → size c - f.p ≡ k → Normal f c
    normal_of reached place =
        let s = size c in
        let counted : f.p + k ≡ s = omega (arith, emin-room f r) in
        let first : 2 ^ (f.p - 1 + k) ≤ c = size_reaches c (f.p - 1 + k) (omega arith) in
        record {
          m = c / 2 ^ k;
          e = s - 1;
          full = (le-div_iff_mul-le (pow_pos k)).1 (subst (λ (x : ℕ). x ≤ c) (pow-add 2 (f.p - 1) k) first);
          fits = shr_lt f.p k (subst (λ (x : ℕ). c < 2 ^ x) (sym counted) (size-lt c));
          not_below = omega arith;
          not_above = omega (arith, below_top_digits f r c below);
          is = sym whole ∙ ap (λ (x : ℕ). c / 2 ^ k * 2 ^ x) (omega arith);
        }

    -- fewer digits below it, where there are subnormals
    subnormal_of : 0 < c → size c ≤ emin f → f.sub ≡ true → emin f + 1 - f.p ≡ k → Subnormal f c
    subnormal_of pos small kept place =
        let counted : emin f ≡ f.p - 1 + k = omega (arith, emin-room f r) in
        let under : c < 2 ^ (f.p - 1 + k) = subst (λ (x : ℕ). c < 2 ^ x) counted (lt_of_lt_of_le (size-lt c) (pow_mono small)) in
        record {
          kept = kept;
          m = c / 2 ^ k;
          positive = lt_of_not-le (λ (none : c / 2 ^ k ≤ 0). lt_irrefl 0 (subst (λ (x : ℕ). 0 < x) (empty none) pos));
          fits = shr_lt (f.p - 1) k under;
          is = sym whole ∙ ap (λ (x : ℕ). c / 2 ^ k * 2 ^ x) (sym place);
        }
      where
        empty : c / 2 ^ k ≤ 0 → c ≡ 0
        empty none = sym whole ∙ ap (λ (x : ℕ). x * 2 ^ k) (le-zero none) ∙ zero-mul (2 ^ k)

    -- no digit at all where every step is longer than the number
    nothing_of : size c ≤ k → c ≡ 0
    nothing_of small =
        sym whole ∙ multiple_none (2 ^ k) c (lt_of_lt_of_le (size-lt c) (pow_mono small))

  -- a magnitude below T that is whole steps of its own is a candidate
  pub whole_candidate : (c : ℕ) → c < T f → lo f c ≡ c → Candidate f c
  unfolding lo step
  whole_candidate c below whole = go (below_or_not (emin f) (size c))
    where
      at : (k : ℕ) → step_exp f (size c) ≡ k → c / 2 ^ k * 2 ^ k ≡ c
      at k e = subst (λ (j : ℕ). c / 2 ^ j * 2 ^ j ≡ c) e whole

      small : size c ≤ emin f → (b : Bool) → f.sub ≡ b → (c ≡ 0) ⊎ (0 < c) → Candidate f c
      small h b kept (inl none) = nothing none
      small h true kept (inr pos) =
          subnormal (subnormal_of c below (emin f + 1 - f.p) (at (emin f + 1 - f.p) (step_small f (size c) h ∙ zeta-sub f r kept)) pos h kept refl)
      small h false kept (inr pos) = nothing (nothing_of c below (emin f) (at (emin f) (step_small f (size c) h ∙ zeta_no_sub f r kept)) h)

      go : (emin f < size c) ⊎ (size c ≤ emin f) → Candidate f c
      go (inl reached) = normal (normal_of c below (size c - f.p) (at (size c - f.p) (step_normal f (size c) reached)) reached refl)
      go (inr h) = small h f.sub refl (eq-zero-or-pos c)

  -- ---- every candidate has a pattern

  -- whole steps are short enough for binary64
  whole_short : (c : ℕ) → lo f c ≡ c → Short c
  unfolding lo step
  whole_short c whole =
      let k = step_exp f (size c) in
      let kept : c < 2 ^ (f.p + k) = lt_of_lt_of_le (size-lt c) (pow_mono (step_keeps f r (size c))) in
      record { m = c / 2 ^ k; place = k; fits = lt_of_lt_of_le (shr_lt f.p k kept) (pow_mono r.p_most); is = sym whole }

  -- so every candidate is, T among them
  pub candidate_short : (c : ℕ) → Candidate f c → Short c
  candidate_short c x = whole_short c (candidate_whole c x)

  pub top_short : Short (T f)
  top_short = candidate_short (T f) (top refl)

  -- T is at most 2^1024
  pub top_not_above : T f ≤ 2 ^ (1074 + 1024)
  unfolding T etop
  top_not_above = pow_mono {i = etop f} {j = 1074 + 1024} (omega arith)

  -- a candidate is T or a magnitude that a finite binary64 number has, so every answer has a pattern
  pub candidate_binary64 : (c : ℕ) → Candidate f c → Binary64 c ⊎ (c ≡ T f)
  candidate_binary64 c x = go (below_or_not c (T f))
    where
      go : (c < T f) ⊎ (T f ≤ c) → Binary64 c ⊎ (c ≡ T f)
      go (inl below) = inl (record { short = candidate_short c x; below = lt_of_lt_of_le below top_not_above })
      go (inr reached) = inr (le_antisymm (candidate_not_above_top c x) reached)
