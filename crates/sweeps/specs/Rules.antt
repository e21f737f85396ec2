-- The first table: the place by the exponent field of a pattern less one. Assumes nothing.
use Rattle.std.specs.Prelude.{◌≡◌, ℕ, ◌+◌, ◌-◌, ◌*◌, ◌/◌, ◌%◌, ◌^◌, ◌<◌, ◌≤◌, max, cond, not, List, nat_lt}
use Rattle.laws.specs.Fills.{FilledTo}
use Rattle.laws.specs.Lists.{tab}
use Rattle.magnitudes.specs.declared.Settings.{Settings}
use Rattle.sweeps.specs.Limits.{sound}

-- the field by which x is looked up: of zero it is the last one
unfoldable pub field_of : ℕ → ℕ
field_of x = (2 * x + (2 ^ 64 - 1)) % 2 ^ 64 / 2 ^ 53

-- The place for a field. Where digits are kept it is the last one's: below the normal range zeta's, and in it the cut. From T on
-- it is 63, where the sign alone is kept, and for NaNs 0, where all is. What may come out as T, the largest field before
-- infinity's, and what keeps no digit have 64: they are left out.
unfoldable pub place_rule : Settings → ℕ → ℕ
place_rule s q =
    cond (not (sound s)) 64
    (cond (nat_lt q (max 1 (s.bottom - 51))) 64
    (cond (nat_lt q (s.emin - 51)) (s.bottom + 1 - q)
    (cond (nat_lt q (s.top / 2 ^ 52 - 1)) s.cut
    (cond (nat_lt q (s.top / 2 ^ 52)) 64
    (cond (nat_lt q 2046) 63
    (cond (nat_lt q 2047) 64 0))))))

-- the table: a place for each of the 2048 fields
unfoldable pub place_table : Settings → List ℕ
place_table s = tab 2048 (place_rule s)

-- A list on its way from l to l', while what stands from `from` to below `to` is written by `place`: any rule that agrees with
-- `place` there, and that l was filled with before `from`, l' is filled with before `to`. Both tables are written so.
pub record Painted (place : ℕ → ℕ) (from to : ℕ) (l l' : List ℕ) : Type 0 where
  pub on : (g : ℕ → ℕ) → ((k : ℕ) → from ≤ k → k < to → g k ≡ place k) → FilledTo g from l → FilledTo g (max from to) l'
