-- `lines::digits::read_digits` meets its contract. Assumes nothing.
use Rattle.lines.proofs.Runs.{none_read, none-worth, none_below, all_looked, no_digit_read, one_more_read, one_more_worth, next_below, looked_below, one_more_below, sum_fits, product_fits}
use Rattle.lines.proofs.digits.read_digits.Goals as goal

pub loop-count-init : goal.loop-count-init
loop-count-init c = record { read = search none_read; worth = search none-worth; small = search none_below }

pub overflow_mul-value : goal.overflow_mul-value
overflow_mul-value c =
    product_fits c.args.base c.loop-count.count c.loop-count.value c.in-Some.next c.loop-count.invariant.small (search next_below) c.args.most
    c.requires.base c.requires.most (search looked_below)

pub overflow_add-value : goal.overflow_add-value
overflow_add-value c = search (sum_fits, next_below, looked_below)

pub loop-count-preserved : goal.loop-count-preserved
loop-count-preserved c = record { read = search one_more_read; worth = search one_more_worth; small = search (one_more_below, next_below) }

pub returns-clause-count : goal.returns-clause-count
returns-clause-count c = search all_looked

pub returns-in_default-clause-count : goal.returns-in_default-clause-count
returns-in_default-clause-count c = search no_digit_read
