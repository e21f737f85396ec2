-- `arrays::loops::sweep_on` meets its contract. Assumes nothing.
use mathlib.Core.Path.{◌≡◌}
use Prim.Native.Nat.{◌-◌, ◌≤◌}
use lib.ListN.{length}
use Rattle.laws.specs.Fills.{FilledTo}
use Rattle.arrays.specs.Loops.{rounded_by_at}
use Rattle.arrays.proofs.loops.sweep_on.Given as goal

abbrev pub invariant-loop-from : goal.invariant-loop-from
invariant-loop-from g l =
    (l.from ≤ length (g.T.Entry.words l.inputs.xs.now)) × (length (g.T.Entry.words l.out) ≡ length (g.T.Entry.words l.inputs.xs.now))
    × FilledTo (rounded_by_at l.s (g.T.Entry.words l.inputs.words.now) (g.T.Entry.words l.inputs.xs.now)) l.from (g.T.Entry.words l.out)
    × (g.T.Entry.rest l.out ≡ g.T.Entry.rest l.initial.out)

abbrev pub decreases-loop-from : goal.decreases-loop-from
decreases-loop-from g l = l.n - l.from
