-- lo and hi are what document 01 says: for every format in range and every magnitude below T, the largest candidate not
-- above it and the next one, and no other numbers are. All of it rests on one law, `step_within`: from lo up to hi the step
-- does not change. And the test `held` says that a magnitude is a candidate below T. Assumes nothing.
use mathlib.Core.Bool.{Bool, true, ◌&&◌}
use mathlib.Core.Path.{◌≡◌, sym, ap, ◌∙◌, subst}
use mathlib.Core.Logic.{◌⊎◌, inl, inr}
use Prim.Native.Nat.{ℕ, suc, ◌+◌, ◌-◌, ◌*◌, ◌/◌, ◌^◌, ◌≤◌, ◌<◌}
use native.Mathlib.Nat.{le_refl, le_trans, le_antisymm, le_of_lt, lt_irrefl, lt_of_lt_of_le, lt_of_le_of_lt, div-mul-le_self, lt-div-mul-add, zero-add, suc-mul, pow-succ', le-suc, le-div_iff_mul-le, mul-le-mul_right}
use native.Mathlib.Omega.{arith}
use lib.Pow.{pow_pos, pow_mono}
use lib.Dec.{ltb, eqb}
use lib.Ieee.{size}
use lib.Ieee.Digits.{size-lt, size-le}
use borrow.Author.Tests.{ltb-true, lt-ltb, eqb-true, eq-eqb}
use Rattle.laws.proofs.Digits.{size_is, size_first, size-pow}
use Rattle.laws.proofs.Multiples.{multiples_apart, multiples_in, multiple_whole, multiple_none, pow_whole}
use Rattle.laws.proofs.Orders.{below_or_not, le_of_not_lt}
use Rattle.laws.proofs.Tests.{and_left, and_right}
use Rattle.grid.specs.declared.Format.{Format}
use Rattle.grid.specs.Formats.{InRange, emin, zeta_exp, step_exp, step, zeta, T}
use Rattle.grid.specs.Candidates.{Candidate}
use Rattle.grid.specs.Candidates.Candidate.{top}
use Rattle.grid.specs.Neighbours.{Lo, Hi, lo, hi, held}
use Rattle.grid.proofs.Steps.{step-below-zeta, step_of_power, step_doubles, step_stays, top_in_steps}
use Rattle.grid.proofs.Candidates.{candidate_whole, whole_candidate, power_whole}

-- ---- whole steps around a magnitude

pub step_positive : (f : Format) (a : ℕ) → 0 < step f a
unfolding step
step_positive f a = pow_pos (step_exp f (size a))

pub lo_not_above : (f : Format) (a : ℕ) → lo f a ≤ a
unfolding lo
lo_not_above f a = div-mul-le_self a (step f a)

pub hi_above : (f : Format) (a : ℕ) → a < hi f a
unfolding lo hi
hi_above f a = lt-div-mul-add (step_positive f a)

pub lo-below-hi : (f : Format) (a : ℕ) → lo f a < hi f a
lo-below-hi f a = lt_of_le_of_lt (lo_not_above f a) (hi_above f a)

-- the step is the gap between them: document 01's G
pub step_is_gap : (f : Format) (a : ℕ) → step f a ≡ hi f a - lo f a
unfolding hi
step_is_gap f a = omega arith

-- whole steps that a reaches, lo reaches, and whole steps above a, hi does not pass
lo_reaches : (f : Format) (a n : ℕ) → n / step f a * step f a ≡ n → n ≤ a → n ≤ lo f a
unfolding lo
lo_reaches f a n whole h =
    subst (λ (x : ℕ). x ≤ lo f a) whole (mul-le-mul_right (step f a) ((le-div_iff_mul-le (step_positive f a)).1 (subst (λ (x : ℕ). x ≤ a) (sym whole) h)))

hi_stays : (f : Format) (a n : ℕ) → n / step f a * step f a ≡ n → a < n → hi f a ≤ n
unfolding lo hi
hi_stays f a n whole h =
    subst (λ (x : ℕ). hi f a ≤ x) whole
    (multiples_apart (step f a) (a / step f a) (n / step f a) (lt_of_le_of_lt (lo_not_above f a) (subst (λ (x : ℕ). a < x) (sym whole) h)))

module _ (f : Format) (r : InRange f) where
  -- ---- below zeta lo is nothing and hi is zeta

  module _ (a : ℕ) (tiny : size a ≤ zeta_exp f) where
    step_is_zeta : step f a ≡ zeta f
    unfolding step zeta
    step_is_zeta = ap (λ (k : ℕ). 2 ^ k) (step-below-zeta f r (size a) tiny)

    pub lo_is_nothing : lo f a ≡ 0
    unfolding lo zeta
    lo_is_nothing =
        ap (λ (d : ℕ). a / d * d) step_is_zeta ∙ multiple_none (zeta f) a (lt_of_lt_of_le (size-lt a) (pow_mono tiny))

    pub hi_is_zeta : hi f a ≡ zeta f
    unfolding hi
    hi_is_zeta = ap (λ (x : ℕ). x + step f a) lo_is_nothing ∙ zero-add (step f a) ∙ step_is_zeta

  -- ---- from zeta on lo and hi stay in a's binade, save that hi may begin the next one

  module _ (a k : ℕ) (digits : size a ≡ suc k) (reached : zeta_exp f ≤ k) where
    own : step_exp f (size a) ≤ k
    own = subst (λ (s : ℕ). step_exp f s ≤ k) (sym digits) (step_of_power f r k reached)

    lo_in_binade : 2 ^ k ≤ lo f a
    unfolding step
    lo_in_binade = lo_reaches f a (2 ^ k) (pow_whole (step_exp f (size a)) k own) (size_first a k digits)

    hi_in_binade : hi f a ≤ 2 ^ suc k
    unfolding step
    hi_in_binade =
        hi_stays f a (2 ^ suc k) (pow_whole (step_exp f (size a)) (suc k) (le_trans own (le-suc k))) (subst (λ (s : ℕ). a < 2 ^ s) digits (size-lt a))

    same_digits : (c : ℕ) → lo f a ≤ c → c < 2 ^ suc k → size c ≡ size a
    same_digits c least below = size_is c k (le_trans lo_in_binade least) below ∙ sym digits

    hi_ends : (size (hi f a) ≡ size a) ⊎ (hi f a ≡ 2 ^ size a)
    hi_ends = go (below_or_not (hi f a) (2 ^ suc k))
      where
        go : (hi f a < 2 ^ suc k) ⊎ (2 ^ suc k ≤ hi f a) → (size (hi f a) ≡ size a) ⊎ (hi f a ≡ 2 ^ size a)
        go (inl below) = inl (same_digits (hi f a) (le_of_lt (lo-below-hi f a)) below)
        go (inr past) = inr (le_antisymm hi_in_binade past ∙ ap (λ (s : ℕ). 2 ^ s) (sym digits))

  -- a magnitude from zeta on has its first digit at zeta's place or above
  first_digit : (a : ℕ) → zeta_exp f < size a → (size a ≡ suc (size a - 1)) × (zeta_exp f ≤ size a - 1)
  first_digit a h = omega arith

  -- From zeta on, hi has as many digits as a, or it is the power that begins the next binade.
  pub hi_same_or_next_binade : (a : ℕ) → zeta_exp f < size a → (size (hi f a) ≡ size a) ⊎ (hi f a ≡ 2 ^ size a)
  hi_same_or_next_binade a h = let d = first_digit a h in hi_ends a (size a - 1) d.0 d.1

  step_at_power : (a : ℕ) → hi f a ≡ 2 ^ size a → step f (hi f a) ≡ 2 ^ step_exp f (suc (size a))
  unfolding step
  step_at_power a e = ap (λ (s : ℕ). 2 ^ step_exp f s) (ap size e ∙ size-pow (size a))

  -- Where hi begins the next binade, its own step is twice a's in the normal range,
  pub step_at_hi : (a : ℕ) → emin f < size a → hi f a ≡ 2 ^ size a → step f (hi f a) ≡ 2 * step f a
  unfolding step
  step_at_hi a h e = step_at_power a e ∙ ap (λ (k : ℕ). 2 ^ k) (step_doubles f r (size a) h) ∙ pow-succ' 2 (step_exp f (size a))

  -- and a's own among the subnormals.
  pub step_at_hi_subnormal : f.sub ≡ true → (a : ℕ) → size a ≤ emin f → hi f a ≡ 2 ^ size a → step f (hi f a) ≡ step f a
  unfolding step
  step_at_hi_subnormal kept a h e = step_at_power a e ∙ ap (λ (k : ℕ). 2 ^ k) (step_stays f r kept (size a) h)

  -- ---- from lo up to hi nothing changes

  -- the step is the same
  pub step_within : (a c : ℕ) → lo f a ≤ c → c < hi f a → step f c ≡ step f a
  unfolding step zeta
  step_within a c least below = go (below_or_not (zeta_exp f) (size a))
    where
      go : (zeta_exp f < size a) ⊎ (size a ≤ zeta_exp f) → step f c ≡ step f a
      go (inl h) =
          let d = first_digit a h in
          let under = lt_of_lt_of_le below (hi_in_binade a (size a - 1) d.0 d.1) in
          ap (λ (s : ℕ). 2 ^ step_exp f s) (same_digits a (size a - 1) d.0 d.1 c least under)
      go (inr tiny) = step_is_zeta c (size-le c (zeta_exp f) (subst (λ (x : ℕ). c < x) (hi_is_zeta a tiny) below)) ∙ sym (step_is_zeta a tiny)

  -- so are lo and hi
  pub lo_within : (a c : ℕ) → lo f a ≤ c → c < hi f a → lo f c ≡ lo f a
  unfolding lo hi
  lo_within a c least below =
      ap (λ (d : ℕ). c / d * d) (step_within a c least below)
      ∙ ap (λ (q : ℕ). q * step f a) (multiples_in (step f a) (a / step f a) c least below)

  pub hi_within : (a c : ℕ) → lo f a ≤ c → c < hi f a → hi f c ≡ hi f a
  unfolding hi
  hi_within a c least below = ap (λ (x : ℕ). x + step f c) (lo_within a c least below) ∙ ap (λ (d : ℕ). lo f a + d) (step_within a c least below)

  -- the step at lo is the step at a
  pub step_at_lo : (a : ℕ) → step f (lo f a) ≡ step f a
  step_at_lo a = step_within a (lo f a) (le_refl (lo f a)) (lo-below-hi f a)

  -- ---- lo and hi are whole steps of their own, so they are candidates

  pub lo_whole : (a : ℕ) → lo f (lo f a) ≡ lo f a
  lo_whole a = lo_within a (lo f a) (le_refl (lo f a)) (lo-below-hi f a)

  pub hi_whole : (a : ℕ) → lo f (hi f a) ≡ hi f a
  unfolding lo hi step zeta
  hi_whole a = go (below_or_not (zeta_exp f) (size a))
    where
      power : (j : ℕ) → zeta_exp f ≤ j → hi f a ≡ 2 ^ j → lo f (hi f a) ≡ hi f a
      power j h e = ap (lo f) e ∙ power_whole f r j h ∙ sym e

      large : zeta_exp f < size a → (size (hi f a) ≡ size a) ⊎ (hi f a ≡ 2 ^ size a) → lo f (hi f a) ≡ hi f a
      large h (inl same) =
          let d = step f a in
          let q = a / step f a in
          ap (λ (s : ℕ). hi f a / 2 ^ step_exp f s * 2 ^ step_exp f s) same
          ∙ multiple_whole d (suc q) (hi f a) (sym (suc-mul q d))
      large h (inr next) = power (size a) (le_of_lt h) next

      go : (zeta_exp f < size a) ⊎ (size a ≤ zeta_exp f) → lo f (hi f a) ≡ hi f a
      go (inl h) = large h (hi_same_or_next_binade a h)
      go (inr tiny) = power (zeta_exp f) (le_refl (zeta_exp f)) (hi_is_zeta a tiny)

  module _ (a : ℕ) (below_top : a < T f) where
    pub hi_not_above_top : hi f a ≤ T f
    hi_not_above_top = hi_stays f a (T f) (top_in_steps f r a below_top) below_top

    pub lo_candidate : Candidate f (lo f a)
    lo_candidate = whole_candidate f r (lo f a) (lt_of_le_of_lt (lo_not_above f a) below_top) (lo_whole a)

    pub hi_candidate : Candidate f (hi f a)
    hi_candidate = go (below_or_not (hi f a) (T f))
      where
        go : (hi f a < T f) ⊎ (T f ≤ hi f a) → Candidate f (hi f a)
        go (inl below) = whole_candidate f r (hi f a) below (hi_whole a)
        go (inr reached) = top (le_antisymm hi_not_above_top reached)

    -- ---- and none lies between them

    pub none_between : (c : ℕ) → Candidate f c → lo f a < c → c < hi f a → ⊥
    none_between c x over below =
        let own : lo f c ≡ c = candidate_whole f r c x in
        lt_irrefl c (subst (λ (y : ℕ). y < c) (sym (lo_within a c (le_of_lt over) below) ∙ own) over)

    -- lo is the largest candidate not above a
    pub lo_is_lo : Lo f a (lo f a)
    lo_is_lo =
        record {
          among = lo_candidate;
          not_above = lo_not_above f a;
          largest = λ c x h. le_of_not_lt (λ (over : lo f a < c). none_between c x over (lt_of_le_of_lt h (hi_above f a)));
        }

    -- hi is the next candidate above lo
    pub hi_is_hi : Hi f (lo f a) (hi f a)
    hi_is_hi =
        record {
          among = hi_candidate;
          above = lo-below-hi f a;
          next = λ c x over. le_of_not_lt (none_between c x over);
        }

    -- Two candidates around a with none between them are lo and hi.
    module _ (x y : ℕ) (x-among : Candidate f x) (y-among : Candidate f y) (not_above : x ≤ a) (above : a < y)
        (none : (c : ℕ) → Candidate f c → x < c → c < y → ⊥) where
      pub lower_is_lo : x ≡ lo f a
      lower_is_lo =
          le_antisymm (lo_is_lo.largest x x-among not_above)
          (le_of_not_lt (λ (g : x < lo f a). none (lo f a) lo_candidate g (lt_of_le_of_lt (lo_not_above f a) above)))

      pub upper_is_hi : y ≡ hi f a
      upper_is_hi =
          le_antisymm
          (le_of_not_lt (none (hi f a) hi_candidate (lt_of_le_of_lt not_above (hi_above f a))))
          (hi_is_hi.next y y-among (lt_of_le_of_lt (lo_not_above f a) above))

-- ---- what the format holds

-- where the test holds, the magnitude is below T and a candidate,
pub held_below : (f : Format) (a : ℕ) → held f a ≡ true → a < T f
unfolding held
held_below f a h = ltb-true a (T f) (and_left (ltb a (T f)) (eqb (lo f a) a) h)

held_whole : (f : Format) (a : ℕ) → held f a ≡ true → lo f a ≡ a
unfolding held
held_whole f a h = eqb-true (lo f a) a (and_right (ltb a (T f)) (eqb (lo f a) a) h)

pub held_candidate : (f : Format) → InRange f → (a : ℕ) → held f a ≡ true → Candidate f a
held_candidate f r a h = whole_candidate f r a (held_below f a h) (held_whole f a h)

-- and it holds of every candidate below T
whole_held : (f : Format) (a : ℕ) → a < T f → lo f a ≡ a → held f a ≡ true
unfolding held
whole_held f a below whole = ap (λ (b : Bool). b && eqb (lo f a) a) (lt-ltb a (T f) below) ∙ eq-eqb (lo f a) a whole

pub candidate_held : (f : Format) → InRange f → (a : ℕ) → Candidate f a → a < T f → held f a ≡ true
candidate_held f r a among below = whole_held f a below (candidate_whole f r a among)

-- lo is the only number with its property, and so is hi
pub lo_unique : (f : Format) (a x y : ℕ) → Lo f a x → Lo f a y → x ≡ y
lo_unique f a x y p q = le_antisymm (q.largest x p.among p.not_above) (p.largest y q.among q.not_above)

pub hi_unique : (f : Format) (lo x y : ℕ) → Hi f lo x → Hi f lo y → x ≡ y
hi_unique f lo x y p q = le_antisymm (p.next y q.among q.above) (q.next x p.among p.above)
