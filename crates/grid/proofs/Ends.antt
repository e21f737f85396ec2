-- The ends of a format: zeta is its smallest positive number, xmax its largest, T comes next, and the smallest normal number
-- is one with no normal number below it. Assumes nothing.
use mathlib.Core.Bool.{false}
use mathlib.Core.Path.{◌≡◌, refl, sym, ap, ◌∙◌, subst}
use Prim.Native.Nat.{ℕ, suc, ◌+◌, ◌-◌, ◌*◌, ◌/◌, ◌^◌, ◌≤◌, ◌<◌, zero-le}
use native.Mathlib.Nat.{le_refl, le_trans}
use native.Mathlib.Omega.{arith}
use lib.Dec.{lit<}
use lib.Pow.{pow-add, pow_pos, pow-lt, pow_mono, ones_lt, le_ones}
use lib.Ieee.{size}
use lib.Ieee.Digits.{size-le}
use Rattle.laws.proofs.Digits.{size_shift, size_first, size-pow}
use Rattle.laws.proofs.Multiples.{multiple_whole, ones_and_one}
use Rattle.grid.specs.declared.Format.{Format}
use Rattle.grid.specs.Formats.{InRange, emin, etop, zeta_exp, step_exp, step, smallest_normal, zeta, xmax, T}
use Rattle.grid.specs.Candidates.{Normal, Candidate}
use Rattle.grid.specs.Neighbours.{Lo, Hi, lo, hi}
use Rattle.grid.proofs.Steps.{emin-room, etop_above, zeta_no_sub, step_normal}
use Rattle.grid.proofs.Candidates.{normal_digits, whole_candidate}
use Rattle.grid.proofs.Neighbours.{lo_is_nothing, hi_is_zeta, hi_is_hi, lo_is_lo, lo_within, hi_above}

module _ (f : Format) (r : InRange f) where
  -- ---- zeta

  pub top_positive : 0 < T f
  unfolding T
  top_positive = pow_pos (etop f)

  -- zeta is the next candidate above 0
  pub zeta_is_hi : Hi f 0 (zeta f)
  zeta_is_hi =
      let tiny : size 0 ≤ zeta_exp f = le_trans (size-le 0 0 (lit< tt)) zero-le in
      subst (λ (h : ℕ). Hi f 0 h) (hi_is_zeta f r 0 tiny) (subst (λ (l : ℕ). Hi f l (hi f 0)) (lo_is_nothing f r 0 tiny) (hi_is_hi f r 0 top_positive))

  -- ---- xmax and T

  -- xmax has its first digit just below T
  xmax-digits : size (xmax f) ≡ etop f
  unfolding xmax
  xmax-digits =
      let all : f.p ≡ suc (f.p - 1) = omega arith in
      let first : 2 ^ (f.p - 1) ≤ 2 ^ f.p - 1 = le_ones f.p (pow-lt {j = f.p} (omega arith)) in
      let below : 2 ^ f.p - 1 < 2 ^ suc (f.p - 1) = subst (λ (k : ℕ). 2 ^ f.p - 1 < 2 ^ k) all (ones_lt f.p) in
      size_shift (2 ^ f.p - 1) (f.p - 1) (etop f - f.p) first below ∙ omega (arith, emin-room f r, etop_above f r)

  xmax-step : step f (xmax f) ≡ 2 ^ (etop f - f.p)
  unfolding step
  xmax-step = ap (λ (k : ℕ). 2 ^ k) (ap (step_exp f) xmax-digits ∙ step_normal f (etop f) (etop_above f r))

  -- it is whole steps of its own
  pub xmax_whole : lo f (xmax f) ≡ xmax f
  unfolding lo xmax
  xmax_whole =
      let place = etop f - f.p in
      ap (λ (d : ℕ). xmax f / d * d) xmax-step ∙ multiple_whole (2 ^ place) (2 ^ f.p - 1) (xmax f) refl

  -- and one step further is T
  pub hi_of_xmax : hi f (xmax f) ≡ T f
  unfolding hi xmax T
  hi_of_xmax =
      let place = etop f - f.p in
      let whole : f.p + place ≡ etop f = omega (arith, emin-room f r, etop_above f r) in
      ap (λ (x : ℕ). x + step f (xmax f)) xmax_whole
      ∙ ap (λ (d : ℕ). xmax f + d) xmax-step
      ∙ ones_and_one f.p place
      ∙ ap (λ (k : ℕ). 2 ^ k) whole

  pub xmax-below_top : xmax f < T f
  xmax-below_top = subst (λ (x : ℕ). xmax f < x) hi_of_xmax (hi_above f (xmax f))

  -- so it is a candidate
  pub xmax_candidate : Candidate f (xmax f)
  xmax_candidate = whole_candidate f r (xmax f) xmax-below_top xmax_whole

  -- T is the next candidate above xmax
  pub top_is_hi : Hi f (xmax f) (T f)
  top_is_hi =
      subst (λ (h : ℕ). Hi f (xmax f) h) hi_of_xmax
      (subst (λ (l : ℕ). Hi f l (hi f (xmax f))) xmax_whole (hi_is_hi f r (xmax f) xmax-below_top))

  -- from xmax up to T it is lo: the largest finite number
  pub xmax_is_lo : (a : ℕ) → xmax f ≤ a → a < T f → Lo f a (xmax f)
  xmax_is_lo a least below =
      subst (λ (l : ℕ). Lo f a l)
      (lo_within f r (xmax f) a (subst (λ (l : ℕ). l ≤ a) (sym xmax_whole) least) (subst (λ (h : ℕ). a < h) (sym hi_of_xmax) below) ∙ xmax_whole)
      (lo_is_lo f r a below)

  -- ---- the smallest normal number

  -- its step is p - 1 places below it: without subnormals, where it is zeta, that is less than the step before it
  pub step_at_smallest_normal : step f (smallest_normal f) ≡ 2 ^ (suc (emin f) - f.p)
  unfolding step smallest_normal
  step_at_smallest_normal = ap (λ (k : ℕ). 2 ^ k) (ap (step_exp f) (size-pow (emin f)) ∙ step_normal f (suc (emin f)) (le_refl (suc (emin f))))

  pub zeta_without_subnormals : f.sub ≡ false → zeta f ≡ smallest_normal f
  unfolding zeta smallest_normal
  zeta_without_subnormals none = ap (λ (k : ℕ). 2 ^ k) (zeta_no_sub f r none)

  pub smallest_normal_is_normal : Normal f (smallest_normal f)
  unfolding smallest_normal
  smallest_normal_is_normal =
      record {
        m = 2 ^ (f.p - 1);
        e = emin f;
        full = le_refl (2 ^ (f.p - 1));
        fits = pow-lt {j = f.p} (omega arith);
        not_below = le_refl (emin f);
        not_above = etop_above f r;
        is = ap (λ (k : ℕ). 2 ^ k) (omega (arith, emin-room f r)) ∙ pow-add 2 (f.p - 1) (emin f + 1 - f.p);
      }

  pub smallest_normal_least : (c : ℕ) → Normal f c → smallest_normal f ≤ c
  unfolding smallest_normal
  smallest_normal_least c n = le_trans (pow_mono n.not_below) (size_first c n.e (normal_digits f r c n))
