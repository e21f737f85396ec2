-- Closed cases that hold the table and its lookup to outside facts. Assumes nothing.
use mathlib.Core.List.{[], ◌∷◌, map}
use mathlib.Core.Path.{◌≡◌, refl}
use Prim.Native.Nat.{ℕ, ◌-◌, ◌^◌}
use Rattle.grid.proofs.Cases as landmarks
use Rattle.known.specs.Table.{formats, none, lookup}

-- the table is the list whose landmarks the cases of `grid` hold to the published ones
table_published : formats ≡ landmarks.formats
table_published = refl

-- the first and the last known number, the first unknown one and the last of all
numbers : map (λ (n : ℕ). (lookup n).number) (0 ∷ 5 ∷ 6 ∷ (2 ^ 64 - 1) ∷ []) ≡ 0 ∷ 0 ∷ 11 ∷ 11 ∷ []
unfolding lookup
numbers = refl

refused_format : (lookup (2 ^ 64 - 1)).format ≡ none
unfolding lookup
refused_format = refl
