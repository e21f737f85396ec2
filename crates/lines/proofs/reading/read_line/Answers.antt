-- `lines::reading::read_line` meets its contract. Assumes nothing.
use mathlib.Core.Path.{◌∙◌}
use borrow.Author.Rules.{rules}
use Rattle.lines.proofs.Values.{no_key, no_value, line-found, line-fits}
use Rattle.lines.proofs.reading.read_line.Goals as goal

pub returns-in_err-rest : goal.returns-in_err-rest
returns-in_err-rest c =
    c.from_residual.ensures
    ∙ no_key c.args.key.now c.args.form c.args.s.now c.strip_prefix.result c.strip_prefix.ensures.cases c.in_err-rest.was

pub returns-in_err-found : goal.returns-in_err-found
returns-in_err-found c =
    c.from_residual-in_err-found.ensures
    ∙ no_value c.args.key.now c.args.form c.args.s.now c.strip_prefix.result c.strip_prefix.ensures.cases c.in_ok-rest.rest c.in_ok-rest.was
    c.read_value.result c.read_value.ensures c.in_err-found.was

pub overflow_add-result : goal.overflow_add-result
overflow_add-result c =
    line-fits c.args.key.now c.args.form c.args.s.now c.strip_prefix.result c.strip_prefix.ensures.cases c.in_ok-rest.rest c.in_ok-rest.was
    c.read_value.result c.read_value.ensures c.in_ok-found.found c.in_ok-found.was (search rules)

pub returns : goal.returns
returns c =
    line-found c.args.key.now c.args.form c.args.s.now c.strip_prefix.result c.strip_prefix.ensures.cases c.in_ok-rest.rest c.in_ok-rest.was
    c.read_value.result c.read_value.ensures c.in_ok-found.found c.in_ok-found.was
