-- `codearrays::converting::write_all` meets its contract. Assumes nothing.
use mathlib.Core.Path.{◌≡◌}
use Prim.Native.Nat.{ℕ}
use lib.ListN.{length}
use Rattle.laws.specs.Fills.{FilledTo}
use Rattle.codearrays.specs.Loops.{Follows, of_entry}
use Rattle.codearrays.proofs.converting.write_all.Given as goal

abbrev pub invariant-loop-i : goal.invariant-loop-i
invariant-loop-i g l =
    (length (g.T.Entry.words l.out) ≡ length (g.T.Entry.words l.xs))
    × ((refuses writes : ℕ → ℕ) → Follows (goal.F-post g l.convert) refuses writes → FilledTo (of_entry writes (g.T.Entry.words l.xs)) l.i (g.T.Entry.words l.out))
    × (g.T.Entry.rest l.out ≡ g.T.Entry.rest l.initial.out)
