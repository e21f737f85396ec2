-- `jobs::texts::read_job` meets its contract. Assumes nothing.
use native.Mathlib.Nat.{le_of_lt, le_of_eq}
use borrow.Author.Rules.{rules}
use Rattle.std.proofs.lemmas.Result.{err_from_is_err_and}
use Rattle.jobs.proofs.Outcomes.{head_bad, heads_left, places_allowed, place_bad, all_sound, surplus_bad, all_written}
use Rattle.jobs.proofs.texts.read_job.Goals as goal

pub returns-in_err-places-clause-answer : goal.returns-in_err-places-clause-answer
returns-in_err-places-clause-answer c =
    let p = err_from_is_err_and c.from_residual.result c.from_residual.ensures.1 in
    let short = c.in_err-places.ensures.bad in
    rw (p.1, p.2) (search head_bad)

pub returns-in_err-places-clause-written : goal.returns-in_err-places-clause-written
returns-in_err-places-clause-written c =
    let short = c.in_err-places.ensures.bad in
    search heads_left

pub place_lines-last-requires : goal.place_lines-last-requires
place_lines-last-requires c = let six = c.in_ok-places.ensures.good.0 in search places_allowed

pub returns-in_err-rest-clause-answer : goal.returns-in_err-rest-clause-answer
returns-in_err-rest-clause-answer c =
    let p = err_from_is_err_and c.from_residual-in_err-rest.result c.from_residual-in_err-rest.ensures.1 in
    let six = c.in_ok-places.ensures.good in
    let short = c.in_err-rest.ensures.bad in
    rw (p.1, p.2) (search place_bad)

pub returns-in_err-rest-clause-written : goal.returns-in_err-rest-clause-written
returns-in_err-rest-clause-written c =
    let six = c.in_ok-places.ensures.good in
    let short = c.in_err-rest.ensures.bad in
    search (all_written, le_of_lt)

pub returns-then-is_empty-clause-answer : goal.returns-then-is_empty-clause-answer
returns-then-is_empty-clause-answer c =
    let six = c.in_ok-places.ensures.good in
    let full = c.in_ok-rest.ensures.good in
    search all_sound

pub returns-then-is_empty-clause-written : goal.returns-then-is_empty-clause-written
returns-then-is_empty-clause-written c =
    let six = c.in_ok-places.ensures.good in
    let full = c.in_ok-rest.ensures.good in
    search (all_written, le_of_eq)

pub returns-else-is_empty-clause-answer : goal.returns-else-is_empty-clause-answer
returns-else-is_empty-clause-answer c =
    let six = c.in_ok-places.ensures.good in
    let full = c.in_ok-rest.ensures.good in
    let surplus =
    surplus_bad c.args.text.now six.0 c.args.values.now c.read_lines.new.values (search rules) c.read_lines.ensures.written
    c.has_words-words.result c.has_words-words.ensures c.place_lines-last.result c.place_lines-last.ensures.lines c.in_ok-places.places.now six.1 full.0
    c.in_ok-rest.rest.now full.1 c.is_empty.result c.is_empty.ensures c.if-is_empty.false in
    search surplus

pub returns-else-is_empty-clause-written : goal.returns-else-is_empty-clause-written
returns-else-is_empty-clause-written c =
    let six = c.in_ok-places.ensures.good in
    let full = c.in_ok-rest.ensures.good in
    search (all_written, le_of_eq)
