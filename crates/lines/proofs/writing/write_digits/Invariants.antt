-- `lines::writing::write_digits` meets its contract. Assumes nothing.
use mathlib.Core.List.{◌++◌}
use mathlib.Core.Path.{◌≡◌}
use Prim.Native.Nat.{◌≤◌}
use lib.ListN.{length, take, drop}
use Rattle.laws.specs.Lists.{over}
use Rattle.lines.specs.Numerals.{digits}
use Rattle.lines.proofs.writing.write_digits.Given as goal

abbrev pub invariant-loop-i : goal.invariant-loop-i
invariant-loop-i l =
    (l.i ≤ l.k)
    × (length l.out ≡ length l.initial.out)
    × (digits l.base l.i l.rest ≡ take l.i (digits l.base l.k l.n))
    × (l.out ≡ take l.i l.initial.out ++ drop l.i (over (digits l.base l.k l.n) l.initial.out))
