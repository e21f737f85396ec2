-- How many places a stretch has, and where it ends. Assumes nothing.
use Rattle.std.proofs.Common.{◌≡◌, ℕ, ◌-◌, ◌<◌, ◌≤◌, Bool, true, false, cond, eqb, arith, eq-eqb, ne_eqb}
use Rattle.sweeps.specs.Stretches.{stretch_places, stretch_end}

-- the first stretch is short,
pub first_places : (from : ℕ) → from ≡ 0 → 32 ≡ stretch_places from
unfolding stretch_places
first_places from h = simp (eq-eqb from 0 h)

-- and the others are not
pub later_places : (from : ℕ) → (from ≡ 0 → ⊥) → 256 ≡ stretch_places from
unfolding stretch_places
later_places from h = simp (ne_eqb from 0 h)

-- a stretch has a place
stretch_some : (from : ℕ) → 1 ≤ stretch_places from
unfolding stretch_places
stretch_some from = go (eqb from 0)
  where
    go : (b : Bool) → 1 ≤ cond b 32 256
    go true = omega arith
    go false = omega arith

module _ (from n to : ℕ) (ends : to ≡ stretch_end from n) where
  -- not past the last place,
  pub stretch_within : to ≤ n
  unfolding stretch_end
  stretch_within = omega arith

  -- and where a place is left, fewer are left then
  pub fewer_left : from < n → n - to < n - from
  unfolding stretch_end
  fewer_left left = omega (arith, stretch_some from)
