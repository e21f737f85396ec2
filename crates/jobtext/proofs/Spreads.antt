-- The loop that takes entries of a list, so many apart, to another: the start, a turn, and the end. Assumes nothing.
use mathlib.Core.List.{List}
use mathlib.Core.Path.{◌≡◌, refl, sym, subst}
use Prim.Native.Nat.{ℕ, ◌+◌, ◌*◌, ◌≤◌, ◌<◌}
use native.Mathlib.Nat.{le_antisymm}
use lib.ListN.{length, get_or, set}
use Rattle.laws.specs.Lists.{tab}
use Rattle.laws.specs.Fills.{FilledTo}
use Rattle.laws.proofs.Fills.{filled_none, filled_more, filled_all}

-- the entry that goes to place i
abbrev pub spread_at : List ℕ → ℕ → ℕ → ℕ → ℕ
spread_at values from apart i = get_or values (from + i * apart) 0

module _ (values : List ℕ) (from apart : ℕ) where
  pub nothing_spread : (out : List ℕ) → FilledTo (spread_at values from apart) 0 out
  nothing_spread out = filled_none (spread_at values from apart) out

  module _ (out₀ out : List ℕ) (i : ℕ) (long : length out ≡ length out₀) where
    module _ (filled : FilledTo (spread_at values from apart) i out) where
      pub one_more_spread : i < length out₀ → FilledTo (spread_at values from apart) (i + 1) (set out i (get_or values (from + i * apart) 0))
      one_more_spread within =
          filled_more (spread_at values from apart) i out (spread_at values from apart i) refl (subst (λ (n : ℕ). i < n) (sym long) within) filled

      pub all_spread : length out₀ ≤ i → i ≤ length out₀ → out ≡ tab (length out₀) (spread_at values from apart)
      all_spread reached within =
          filled_all (spread_at values from apart) (length out₀) out long
          (subst (λ (n : ℕ). FilledTo (spread_at values from apart) n out) (le_antisymm within reached) filled)
