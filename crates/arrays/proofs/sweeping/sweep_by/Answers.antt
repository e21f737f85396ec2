-- `arrays::sweeping::sweep_by` meets its contract. Assumes nothing.
use Prim.Native.Nat.{◌≤◌, ◌<◌}
use borrow.Author.Rules.{rules}
use Rattle.arrays.proofs.Turns.{stored_long}
use Rattle.arrays.proofs.Sweeps.{quick_turn, sweep_ends}
use Rattle.arrays.proofs.sweeping.sweep_by.Goals as goal

pub loop-i-preserved : goal.loop-i-preserved
loop-i-preserved g c =
    let within : c.loop-i.i < c.args.stretch.end = search rules in (
      search rules,
      search stored_long,
      search (quick_turn g.Q.Quick.rule g.met.Q.Quick.rounds),
      search rules,
    )

pub returns-clause-swept : goal.returns-clause-swept
returns-clause-swept g c = let reached : c.args.stretch.end ≤ c.loop-i.i = search rules in search sweep_ends
