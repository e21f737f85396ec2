-- `jobs::texts::read_lines` meets its contract. Assumes nothing.
use native.Mathlib.Omega.{arith}
use Rattle.jobs.proofs.Scans.{found_within, lines_turn, rest_turn, values_turn, ahead_none, ahead_stopped, lines_end, rest_end, values_end}
use Rattle.jobs.proofs.texts.read_lines.Goals as goal

pub slice_bounds-rest-count : goal.slice_bounds-rest-count
slice_bounds-rest-count c = search found_within

pub slice_bounds-rest-start : goal.slice_bounds-rest-start
slice_bounds-rest-start c = search found_within

pub loop-i-preserved : goal.loop-i-preserved
loop-i-preserved c = record { lines = search lines_turn; left = search rest_turn; stored = search values_turn }

pub returns-in_default-clause-bad : goal.returns-in_default-clause-bad
returns-in_default-clause-bad c =
    let none = ahead_stopped c.args.words c.args.last c.loop-i.i c.loop-i.rest.now c.read_at.result c.read_at.ensures c.loop-i-test.true c.in_default.is in
    let end = lines_end c.args.words c.args.last c.loop-i.i c.loop-i.rest.now none _ c.loop-i.invariant.lines in
    (omega arith, omega arith)

pub returns-in_default-clause-written : goal.returns-in_default-clause-written
returns-in_default-clause-written c = search (values_end, ahead_stopped)

pub returns-clause-good : goal.returns-clause-good
returns-clause-good c =
    let none = ahead_none c.args.words c.args.last c.loop-i.i c.loop-i.rest.now c.loop-i-test.false in
    let end = lines_end c.args.words c.args.last c.loop-i.i c.loop-i.rest.now none _ c.loop-i.invariant.lines in
    (omega arith, search rest_end)

pub returns-clause-written : goal.returns-clause-written
returns-clause-written c = search (values_end, ahead_none)
