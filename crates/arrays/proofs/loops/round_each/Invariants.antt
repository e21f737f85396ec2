-- `arrays::loops::round_each` meets its contract. Assumes nothing.
use mathlib.Core.Path.{◌≡◌}
use Prim.Native.Nat.{◌≤◌}
use lib.ListN.{length}
use Rattle.laws.specs.Fills.{FilledTo}
use Rattle.arrays.specs.Loops.{rounded_by_at}
use Rattle.arrays.proofs.loops.round_each.Given as goal

abbrev pub invariant-loop-i : goal.invariant-loop-i
invariant-loop-i g l =
    (l.i ≤ length (g.T.Entry.words l.inputs.xs.now)) × (length (g.T.Entry.words l.out) ≡ length (g.T.Entry.words l.inputs.xs.now))
    × FilledTo (rounded_by_at l.s (g.T.Entry.words l.inputs.words.now) (g.T.Entry.words l.inputs.xs.now)) l.i (g.T.Entry.words l.out)
    × (g.T.Entry.rest l.out ≡ g.T.Entry.rest l.initial.out)
