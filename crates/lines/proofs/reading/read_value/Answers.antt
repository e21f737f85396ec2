-- `lines::reading::read_value` meets its contract. Assumes nothing.
use mathlib.Core.Path.{◌∙◌}
use Rattle.lines.proofs.Values.{other_width, not_of_form, ends_behind, other_behind, value_found}
use Rattle.lines.proofs.reading.read_value.Goals as goal

pub returns-then-count-width : goal.returns-then-count-width
returns-then-count-width c = search other_width

pub returns-then-not-fits : goal.returns-then-not-fits
returns-then-not-fits c = search not_of_form

pub returns-in_err-get : goal.returns-in_err-get
returns-in_err-get c =
    let ended = c.in_err-get.ensures.lookup.3 in
    c.from_residual.ensures ∙ search ends_behind

pub returns-then-branch-ne-LINE_FEED : goal.returns-then-branch-ne-LINE_FEED
returns-then-branch-ne-LINE_FEED c = let next = c.in_ok-get.ensures.lookup.3.1 0 in search other_behind

pub returns : goal.returns
returns c = let next = c.in_ok-get.ensures.lookup.3.1 0 in search value_found
