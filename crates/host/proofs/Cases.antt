-- Closed cases that hold the definitions of C's numbers to document 01: antt computes both sides. Assumes nothing.
use mathlib.Core.Bool.{true, false}
use mathlib.Core.List.{List, [], ◌∷◌}
use mathlib.Core.Path.{◌≡◌, refl}
use Prim.Native.Nat.{ℕ, ◌-◌, ◌^◌}
use Rattle.grid.proofs.Cases.{format}
use Rattle.known.specs.Table.{lookup}
use Rattle.host.specs.Formats.{format_from, in_numbers}

-- a format from C: p, emax, and of sub 0 is off, and every other number on
subs : format_from 11 15 0 ∷ format_from 11 15 1 ∷ format_from 11 15 2 ∷ format_from 11 15 256 ∷ format_from 11 15 (2 ^ 63) ∷ []
    ≡ format 11 15 false ∷ format 11 15 true ∷ format 11 15 true ∷ format 11 15 true ∷ format 11 15 true ∷ []
unfolding format_from
subs = refl

-- the known formats as C gets them: the number of a refusal, p, emax and sub
abbrev row : ℕ → List ℕ
row known = let f = in_numbers (lookup known) in f.number ∷ f.p ∷ f.emax ∷ f.sub ∷ []

known_rows : row 0 ∷ row 1 ∷ row 2 ∷ row 3 ∷ row 4 ∷ row 5 ∷ row 6 ∷ row (2 ^ 64 - 1) ∷ []
    ≡ (0 ∷ 11 ∷ 15 ∷ 1 ∷ [])
    ∷ (0 ∷ 8 ∷ 127 ∷ 1 ∷ [])
    ∷ (0 ∷ 11 ∷ 127 ∷ 1 ∷ [])
    ∷ (0 ∷ 24 ∷ 127 ∷ 1 ∷ [])
    ∷ (0 ∷ 53 ∷ 1023 ∷ 1 ∷ [])
    ∷ (0 ∷ 3 ∷ 15 ∷ 1 ∷ [])
    ∷ (11 ∷ 0 ∷ 0 ∷ 0 ∷ [])
    ∷ (11 ∷ 0 ∷ 0 ∷ 0 ∷ [])
    ∷ []
unfolding in_numbers lookup
known_rows = refl
