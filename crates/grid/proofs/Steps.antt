-- The step's exponent: the few laws about `step_exp` and `T` by which everything above goes. Assumes nothing.
use mathlib.Core.Bool.{Bool, true, false, cond}
use mathlib.Core.Path.{◌≡◌, ap}
use mathlib.Core.Logic.{◌⊎◌, inl, inr}
use Prim.Native.Nat.{ℕ, suc, ◌+◌, ◌-◌, ◌*◌, ◌/◌, ◌≤◌, ◌<◌}
use native.Mathlib.Nat.{le_step}
use native.Mathlib.Omega.{arith}
use lib.Ieee.{size}
use lib.Ieee.Digits.{size-le}
use borrow.Author.Tests.{lt-ltb, le-ltb}
use Rattle.laws.proofs.Multiples.{pow_whole}
use Rattle.laws.proofs.Orders.{below_or_not}
use Rattle.grid.specs.declared.Format.{Format}
use Rattle.grid.specs.Formats.{InRange, emin, etop, zeta_exp, step_exp, step, T}

-- ---- what the exponent is

-- from the smallest normal number on, p digits stand from the step on
pub step_normal : (f : Format) (s : ℕ) → emin f < s → step_exp f s ≡ s - f.p
unfolding step_exp
step_normal f s h = ap (λ (b : Bool). cond b (s - f.p) (zeta_exp f)) (lt-ltb (emin f) s h)

-- below it the step is zeta
pub step_small : (f : Format) (s : ℕ) → s ≤ emin f → step_exp f s ≡ zeta_exp f
unfolding step_exp
step_small f s h = ap (λ (b : Bool). cond b (s - f.p) (zeta_exp f)) (le-ltb (emin f) s h)

-- there is no third case
abbrev StepCases : Format → ℕ → Type 0
StepCases f s = ((emin f < s) × (step_exp f s ≡ s - f.p)) ⊎ ((s ≤ emin f) × (step_exp f s ≡ zeta_exp f))

step_cases : (f : Format) (s : ℕ) → StepCases f s
step_cases f s = go (below_or_not (emin f) s)
  where
    go : (emin f < s) ⊎ (s ≤ emin f) → StepCases f s
    go (inl h) = inl (h, step_normal f s h)
    go (inr h) = inr (h, step_small f s h)

module _ (f : Format) (r : InRange f) where
  -- ---- where the format's exponents stand

  -- p digits fit below the smallest normal number's next binade, so no number needs a place below the unit
  pub emin-room : f.p ≤ suc (emin f)
  unfolding emin
  emin-room = omega arith

  -- the smallest normal number is not below binary64's
  pub emin_normal : 52 ≤ emin f
  unfolding emin
  emin_normal = omega arith

  pub etop_above : emin f < etop f
  unfolding emin etop
  etop_above = omega arith

  -- with subnormals zeta is p - 1 places below the smallest normal number
  pub zeta-sub : f.sub ≡ true → zeta_exp f ≡ emin f + 1 - f.p
  unfolding zeta_exp
  zeta-sub kept = ap (λ (b : Bool). cond b (emin f + 1 - f.p) (emin f)) kept

  -- and without them it is that number
  pub zeta_no_sub : f.sub ≡ false → zeta_exp f ≡ emin f
  unfolding zeta_exp
  zeta_no_sub none = ap (λ (b : Bool). cond b (emin f + 1 - f.p) (emin f)) none

  -- zeta is not above the smallest normal number, and fewer than p places below it
  pub zeta_not_above : zeta_exp f ≤ emin f
  unfolding zeta_exp
  zeta_not_above = go f.sub
    where
      go : (b : Bool) → cond b (emin f + 1 - f.p) (emin f) ≤ emin f
      go true = omega arith
      go false = omega arith

  pub zeta_near : emin f < f.p + zeta_exp f
  unfolding zeta_exp
  zeta_near = go f.sub
    where
      go : (b : Bool) → emin f < f.p + cond b (emin f + 1 - f.p) (emin f)
      go true = omega arith
      go false = omega arith

  -- ---- what everything else uses

  -- below zeta the step is zeta
  pub step-below-zeta : (s : ℕ) → s ≤ zeta_exp f → step_exp f s ≡ zeta_exp f
  step-below-zeta s h = step_small f s (omega (arith, zeta_not_above))

  -- a power from zeta on is whole steps of its own: with j + 1 digits the step is at most 2^j
  pub step_of_power : (j : ℕ) → zeta_exp f ≤ j → step_exp f (suc j) ≤ j
  step_of_power j h = go (step_cases f (suc j))
    where
      go : StepCases f (suc j) → step_exp f (suc j) ≤ j
      go (inl c) = omega arith
      go (inr c) = omega arith

  -- at most p digits are kept
  pub step_keeps : (s : ℕ) → s ≤ f.p + step_exp f s
  step_keeps s = go (step_cases f s)
    where
      go : StepCases f s → s ≤ f.p + step_exp f s
      go (inl c) = omega arith
      go (inr c) = omega (arith, zeta_near)

  -- from the smallest normal number on, one digit more doubles the step
  pub step_doubles : (s : ℕ) → emin f < s → step_exp f (suc s) ≡ suc (step_exp f s)
  step_doubles s h = omega (arith, emin-room, step_normal f s h, step_normal f (suc s) (le_step h))

  -- below it, with subnormals, the step stays
  pub step_stays : f.sub ≡ true → (s : ℕ) → s ≤ emin f → step_exp f (suc s) ≡ step_exp f s
  step_stays kept s h = go (step_cases f (suc s))
    where
      go : StepCases f (suc s) → step_exp f (suc s) ≡ step_exp f s
      go (inl c) = omega (arith, zeta-sub kept, step_small f s h)
      go (inr c) = omega (arith, step_small f s h)

  -- a magnitude below T has no digit from T's exponent on
  pub below_top_digits : (a : ℕ) → a < T f → size a ≤ etop f
  unfolding T
  below_top_digits a h = size-le a (etop f) h

  -- the step of a magnitude below T is below T too, so T is whole steps of it
  pub top_in_steps : (a : ℕ) → a < T f → T f / step f a * step f a ≡ T f
  unfolding T step
  top_in_steps a h = pow_whole (step_exp f (size a)) (etop f) (go (below_top_digits a h) (step_cases f (size a)))
    where
      go : size a ≤ etop f → StepCases f (size a) → step_exp f (size a) ≤ etop f
      go below (inl c) = omega arith
      go below (inr c) = omega (arith, zeta_not_above, etop_above)
