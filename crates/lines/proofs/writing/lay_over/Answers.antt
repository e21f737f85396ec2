-- `lines::writing::lay_over` meets its contract. Assumes nothing.
use mathlib.Core.Path.{sym}
use Rattle.laws.proofs.Overlays.{over_long}
use Rattle.lines.proofs.Written.{laid_over}
use Rattle.lines.proofs.writing.lay_over.Goals as goal

pub returns-then-size-out : goal.returns-then-size-out
returns-then-size-out c = search laid_over

pub returns-else-size-out : goal.returns-else-size-out
returns-else-size-out c = sym (over_long c.args.bytes.now c.args.out.now c.if-size-out.false)
