-- From a test of a whole table to the rule at each of its entries. Assumes nothing.
use mathlib.Core.Bool.{Bool, true}
use mathlib.Core.List.{List, [], ◌∷◌}
use mathlib.Core.Path.{◌≡◌}
use Prim.Native.Nat.{ℕ, zero, suc, ◌<◌}
use native.Mathlib.Nat.{le_of_suc-le-suc, not-suc-le-zero}
use lib.ListN.{length, get_or}
use Rattle.laws.specs.Tables.{every}
use Rattle.laws.proofs.Tests.{and_left, and_right}

-- what passes at every entry passes at the one with the number n
pub every_at : {A : Type 0} (test : A → Bool) (table : List A) (other : A) → every test table ≡ true → (n : ℕ) → n < length table → test (get_or table n other) ≡ true
every_at test [] other e n h = absurd (not-suc-le-zero h)
every_at test (x ∷ xs) other e zero h = and_left (test x) (every test xs) e
every_at test (x ∷ xs) other e (suc n) h = every_at test xs other (and_right (test x) (every test xs) e) n (le_of_suc-le-suc h)
