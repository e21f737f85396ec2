-- `codearrays::converting::check_all` meets its contract. Assumes nothing.
use mathlib.Core.List.{map}
use Prim.Native.Nat.{ℕ}
use Rattle.laws.specs.Fills.{FilledTo}
use Rattle.codearrays.specs.Loops.{Follows, no_refusal}
use Rattle.codearrays.proofs.converting.check_all.Given as goal

abbrev pub invariant-loop-place : goal.invariant-loop-place
invariant-loop-place g l =
    (refuses writes : ℕ → ℕ) → Follows (goal.F-post g l.convert) refuses writes → FilledTo no_refusal l.place (map refuses (g.T.Entry.words l.xs))
