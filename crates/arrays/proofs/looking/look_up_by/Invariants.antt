-- `arrays::looking::look_up_by` meets its contract. Assumes nothing.
use mathlib.Core.Path.{◌≡◌}
use lib.ListN.{length}
use Rattle.laws.specs.Fills.{FilledTo}
use Rattle.arrays.specs.Loops.{rounded_by_at}
use Rattle.arrays.proofs.looking.look_up_by.Given as goal

abbrev pub invariant-loop-i : goal.invariant-loop-i
invariant-loop-i g l =
    (length (g.T.Entry.words l.out) ≡ length (g.T.Entry.words l.inputs.xs.now))
    × FilledTo (rounded_by_at l.t.settings (g.T.Entry.words l.inputs.words.now) (g.T.Entry.words l.inputs.xs.now)) l.i (g.T.Entry.words l.out)
    × (g.T.Entry.rest l.out ≡ g.T.Entry.rest l.initial.out)
