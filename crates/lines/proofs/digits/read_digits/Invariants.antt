-- `lines::digits::read_digits` meets its contract. Assumes nothing.
use mathlib.Core.Path.{◌≡◌}
use Prim.Native.Nat.{◌+◌, ◌-◌, ◌^◌, ◌<◌}
use lib.ListN.{take, drop}
use Rattle.lines.specs.Reading.{run, value}
use Rattle.lines.proofs.digits.read_digits.Given as goal

abbrev pub invariant-loop-count : goal.invariant-loop-count
invariant-loop-count l = record {
  read : run l.base l.most l.s ≡ l.count + run l.base (l.most - l.count) (drop l.count l.s);
  worth : l.value ≡ value l.base 0 (take l.count l.s);
  small : l.value < l.base ^ l.count;
}
