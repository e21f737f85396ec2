-- How a whole array is cut into stretches, and how one of them is swept. Assumes nothing.
use Rattle.std.specs.Prelude.{◌≡◌, ℕ, ◌+◌, min, cond, List, ◌==◌}
use Rattle.magnitudes.specs.declared.Mode.{Mode}
use Rattle.magnitudes.specs.declared.Settings.{Settings}
use Rattle.sweeps.specs.declared.Limits.{Limits}
use Rattle.sweeps.specs.Limits.{limits}

-- how many places the stretch from a place on has: the first one is short
unfoldable pub stretch_places : ℕ → ℕ
stretch_places from = cond (from == 0) 32 256

-- where it ends, of n places: so many further, or at the last
unfoldable pub stretch_end : ℕ → ℕ → ℕ
stretch_end from n = min (from + stretch_places from) n

-- A list on its way from `before` to `after`, while its places from `from` to below `to` are swept by limits and a mode. `Done s n l`
-- says that the places of l below n are rounded by the settings s, and `Fit` that everything swept fits. What was rounded stays
-- so; and where everything fits, the places that were swept are rounded too, by any settings that have these limits and this mode.
pub record SweptTo (Done : Settings → ℕ → List ℕ → Type 0) (l : Limits) (mode : Mode) (from to : ℕ) (Fit : Type 0) (before after : List ℕ) : Type 0 where
  pub kept : (s : Settings) → Done s from before → Done s from after
  pub right : (s : Settings) → l ≡ limits s → mode ≡ s.mode → Done s from before → Fit → Done s to after
