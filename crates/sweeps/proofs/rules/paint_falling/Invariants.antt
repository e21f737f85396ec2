-- `sweeps::rules::paint_falling` meets its contract. Assumes nothing.
use Rattle.std.proofs.Common.{◌-◌, ◌≤◌, max}
use Rattle.sweeps.specs.Rules.{Painted}
use Rattle.sweeps.proofs.rules.paint_falling.Given as goal

abbrev pub invariant-loop-i : goal.invariant-loop-i
invariant-loop-i l = (l.i ≤ max l.from l.to) × Painted (λ k. l.sum - k) l.from l.i l.initial.places l.places
