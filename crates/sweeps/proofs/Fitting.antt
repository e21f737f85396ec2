-- The limits between which numbers are rounded without a branch, as the code makes them. Assumes nothing.
use Rattle.std.proofs.Common.{◌≡◌, ℕ, ◌-◌, ◌*◌, ◌%◌, ◌^◌, ◌<◌, ◌≤◌, Bool, true, false, cond, mod-eq_of_lt, arith, pow_pos}
use Rattle.patterns.specs.Patterns.{infinity}
use Rattle.magnitudes.specs.declared.Settings.{Settings}
use Rattle.sweeps.specs.Limits.{sound, Sound, steady, most, limits}
use Rattle.sweeps.proofs.Soundness.{sound_facts}

-- ---- the most that fits

-- one may be taken from T
pub top_some : (s : Settings) → sound s ≡ true → 1 ≤ s.top
top_some s passed = omega (arith, (sound_facts s passed).top_above)

-- by the test of the mode
module _ (s : Settings) (b : Bool) (tested : b ≡ steady s.mode) where
  pub most-steady : b ≡ true → s.top - 1 ≡ most s
  unfolding most
  most-steady h = simp (← tested, h)

  pub most_else : b ≡ false → s.xmax ≡ most s
  unfolding most
  most_else h = simp (← tested, h)

-- it is below T
pub most-below_top : (s : Settings) → Sound s → most s < s.top
unfolding most
most-below_top s f = go (steady s.mode)
  where
    go : (b : Bool) → cond b (s.top - 1) s.xmax < s.top
    go true = omega (arith, f.top_above)
    go false = omega (arith, f.xmax_then_top, pow_pos s.cut)

-- ---- the limits

-- of sound settings
module _ (s : Settings) (is_sound : sound s ≡ true) where
  -- the differences do not go below nothing
  pub start_large : 51 ≤ s.emin
  start_large = omega (arith, (sound_facts s is_sound).emin_least)

  pub top_below-sign : s.top ≤ 2 ^ 63
  top_below-sign = omega (arith, (sound_facts s is_sound).top_most)

  pub top_below-infinity : s.top ≤ infinity
  top_below-infinity = (sound_facts s is_sound).top_most

  -- the limits that pass, and as the code makes them
  pub limits_passed : limits s ≡ record { cut = s.cut; least = (s.emin - 51) * 2 ^ 52; most = most s; room = 2 ^ 63 - s.top; gap = infinity - s.top }
  unfolding limits
  limits_passed = simp is_sound

  pub limits-sound : (m : ℕ) → m ≡ most s
      → record { cut = s.cut; least = (s.emin - 51) * 2 ^ 52 % 2 ^ 64; most = m; room = 2 ^ 63 - s.top; gap = infinity - s.top } ≡ limits s
  limits-sound m e =
      let f : Sound s = sound_facts s is_sound in
      let fits : (s.emin - 51) * 2 ^ 52 % 2 ^ 64 ≡ (s.emin - 51) * 2 ^ 52 = mod-eq_of_lt (omega (arith, f.top_most, f.top_above)) in
      simp (limits_passed, fits, e)

-- of others: the limits that nothing fits
pub limits_else : (s : Settings) → sound s ≡ false → record { cut = 0; least = 2 ^ 63; most = 0; room = 0; gap = 0 } ≡ limits s
unfolding limits
limits_else s h = simp h
