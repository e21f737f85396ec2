-- `jobs::texts::read_lines` meets its contract. Assumes nothing.
use mathlib.Core.Path.{◌≡◌}
use Prim.Native.Nat.{◌+◌, ◌-◌}
use lib.ListN.{length, drop}
use lib.Seq.{sets}
use Rattle.jobs.specs.Reading.{read_from}
use Rattle.jobs.proofs.Scans.{ahead}
use Rattle.jobs.proofs.texts.read_lines.Given as goal

abbrev pub invariant-loop-i : goal.invariant-loop-i
invariant-loop-i l = record {
  lines : l.first + length (read_from l.words l.first (l.last - l.first) l.text).values ≡ l.i + length (ahead l.words l.last l.i l.rest).values;
  left : drop (read_from l.words l.first (l.last - l.first) l.text).used l.text ≡ drop (ahead l.words l.last l.i l.rest).used l.rest;
  stored :
      sets l.initial.values l.first (read_from l.words l.first (l.last - l.first) l.text).values
      ≡ sets l.values l.i (ahead l.words l.last l.i l.rest).values;
}
