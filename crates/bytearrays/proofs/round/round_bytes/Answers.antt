-- `bytearrays::round::round_bytes` meets its contract. Assumes nothing.
use borrow.Author.Rules.{rules}
use Rattle.std.proofs.lemmas.Result.{err_from_is_err_and}
use Rattle.rounding.specs.Calls.{refusal}
use Rattle.bytearrays.specs.Calls.{round_bytes_reported, round_bytes_afterwards}
use Rattle.bytearrays.proofs.Calls.{ragged_report, ragged_output, whole_report, whole_output}
use Rattle.bytearrays.proofs.round.round_bytes.Goals as goal

pub returns-in_err-check_whole-clause-answer : goal.returns-in_err-check_whole-clause-answer
unfolding round_bytes_reported
returns-in_err-check_whole-clause-answer c =
    let p = err_from_is_err_and c.from_residual.result c.from_residual.ensures.1 in
    rw (p.1, p.2) (ragged_report _ _ _ _ _ (c.in_err-check_whole.ensures (refusal c.args.format c.args.mode c.args.r) (λ r h. search rules)))

pub returns-in_err-check_whole-clause-written : goal.returns-in_err-check_whole-clause-written
unfolding round_bytes_afterwards round_bytes_reported
returns-in_err-check_whole-clause-written c =
    ragged_output _ _ _ _ _ (c.in_err-check_whole.ensures (refusal c.args.format c.args.mode c.args.r) (λ r h. search rules)) _

pub returns-clause-answer : goal.returns-clause-answer
unfolding round_bytes_reported
returns-clause-answer c =
    whole_report _ _ _ _ (c.in_ok-check_whole.ensures (refusal c.args.format c.args.mode c.args.r) (λ r h. search rules)) _ c.round_array.ensures.answer

pub returns-clause-written : goal.returns-clause-written
unfolding round_bytes_afterwards round_bytes_reported
returns-clause-written c =
    whole_output _ _ _ _ (c.in_ok-check_whole.ensures (refusal c.args.format c.args.mode c.args.r) (λ r h. search rules)) _ c.round_array.ensures.answer _ _ c.round_array.ensures.kept
    (search rules) (search rules) c.round_array.ensures.written
