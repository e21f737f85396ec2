-- `arrays::sweeping::sweep_by` meets its contract. Assumes nothing.
use mathlib.Core.Path.{◌≡◌}
use Prim.Native.Nat.{◌^◌, ◌≤◌, ◌<◌}
use lib.ListN.{length}
use Rattle.sweeps.specs.Stretches.{SweptTo}
use Rattle.arrays.specs.Loops.{RoundedTo}
use Rattle.arrays.proofs.sweeping.sweep_by.Given as goal

abbrev pub invariant-loop-i : goal.invariant-loop-i
invariant-loop-i g l =
    (l.fn.stretch.start ≤ l.i) × (length (g.T.Entry.words l.out) ≡ length (g.T.Entry.words l.inputs.xs.now))
    × SweptTo (RoundedTo (g.T.Entry.words l.inputs.words.now) (g.T.Entry.words l.inputs.xs.now)) l.l l.mode l.fn.stretch.start l.i (l.unfit < 2 ^ 63)
    (g.T.Entry.words l.initial.out) (g.T.Entry.words l.out)
    × (g.T.Entry.rest l.out ≡ g.T.Entry.rest l.initial.out)
