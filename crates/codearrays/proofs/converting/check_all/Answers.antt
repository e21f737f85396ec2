-- `codearrays::converting::check_all` meets its contract. Assumes nothing.
use mathlib.Core.Path.{◌≡◌}
use native.Mathlib.Omega.{arith}
use borrow.Author.Rules.{rules}
use Rattle.codearrays.proofs.Turns.{one_more_accepted, lowest_found, all_accepted}
use Rattle.codearrays.proofs.converting.check_all.Goals as goal

pub returns-in-Err : goal.returns-in-Err
returns-in-Err g c refuses writes follows =
    lowest_found refuses _ c.loop-place.place (c.loop-place.invariant refuses writes follows) (omega arith) _ c.word_at.ensures
    c.in-Err.refusal (follows.refused _ _ c.in-Err.ensures)

pub loop-place-preserved : goal.loop-place-preserved
loop-place-preserved g c refuses writes follows =
    let before = c.loop-place.invariant refuses writes follows in
    let accepted : 0 ≡ refuses _ = follows.refused _ _ c.in_default.ensures in
    search (one_more_accepted, rules)

pub returns : goal.returns
returns g c refuses writes follows = all_accepted refuses _ c.loop-place.place (c.loop-place.invariant refuses writes follows) (omega arith)
