-- Between which magnitude patterns a number is rounded without a branch. Assumes nothing.
use Rattle.std.specs.Prelude.{◌≡◌, ℕ, ◌+◌, ◌-◌, ◌*◌, ◌/◌, ◌%◌, ◌^◌, ◌<◌, ◌≤◌, Bool, true, false, cond, ◌&&◌, ◌==◌, nat_le, nat_lt}
use Rattle.patterns.specs.Patterns.{infinity}
use Rattle.magnitudes.specs.declared.Mode.{Mode}
use Rattle.magnitudes.specs.declared.Mode.TheVariants.{TiesToEven, TiesToZero, TiesAway, TowardZero, TowardPlus, TowardMinus, ToOdd, Stochastic, EvenChance}
use Rattle.magnitudes.specs.declared.Settings.{Settings}
use Rattle.sweeps.specs.declared.Limits.{Limits}

-- Digits are cut as by a format: at most 51 in the normal range, which starts at a normal binary64 number, and below it more,
-- from zeta's exponent on, which is not above that start.
unfoldable pub sound_places : ℕ → ℕ → ℕ → Bool
sound_places cut emin bottom = nat_le cut 51 && (nat_le 52 emin && (nat_le bottom emin && nat_le (emin - bottom) (52 - cut)))

-- T is a power of two's pattern above the start of the normal range and not above infinity's, and xmax is one step below T
unfoldable pub sound_top : ℕ → ℕ → ℕ → ℕ → Bool
sound_top cut emin xmax top = nat_le top infinity && (top % 2 ^ 52 == 0 && (nat_lt (emin - 51) (top / 2 ^ 52) && xmax == top - 2 ^ cut))

-- the settings are as a format's are; settings that are not go by the single rounding alone
unfoldable pub sound : Settings → Bool
sound s = sound_places s.cut s.emin s.bottom && sound_top s.cut s.emin s.xmax s.top

-- the same, as the facts that a law may lean on
pub record Sound (s : Settings) : Type 0 where
  pub cut_most : s.cut ≤ 51
  pub emin_least : 52 ≤ s.emin
  pub bottom_most : s.bottom ≤ s.emin
  pub bottom_least : s.emin + s.cut ≤ s.bottom + 52
  pub top_most : s.top ≤ infinity
  pub top_whole : s.top % 2 ^ 52 ≡ 0
  pub top_above : s.emin - 51 < s.top / 2 ^ 52
  pub xmax_then_top : s.xmax + 2 ^ s.cut ≡ s.top

-- the mode takes nothing below T to T: toward zero, and to odd, since xmax is odd
unfoldable pub steady : Mode → Bool
steady TiesToEven = false
steady TiesToZero = false
steady TiesAway = false
steady TowardZero = true
steady TowardPlus = false
steady TowardMinus = false
steady ToOdd = true
steady (Stochastic r) = false
steady EvenChance = false

-- the most that fits where no sum may reach T: any number below T in a steady mode, and else xmax
unfoldable pub most : Settings → ℕ
most s = cond (steady s.mode) (s.top - 1) s.xmax

-- the limits of sound settings, and for others limits that nothing fits
unfoldable pub limits : Settings → Limits
limits s =
    cond (sound s)
    (record { cut = s.cut; least = (s.emin - 51) * 2 ^ 52; most = most s; room = 2 ^ 63 - s.top; gap = infinity - s.top })
    (record { cut = 0; least = 2 ^ 63; most = 0; room = 0; gap = 0 })
