-- `bytearrays::packing::pack_bytes` meets its contract. Assumes nothing.
use borrow.Author.Rules.{rules}
use Rattle.std.proofs.lemmas.Result.{err_from_is_err_and}
use Rattle.layouts.specs.Calls.{format_refusal}
use Rattle.layouts.proofs.Layouts.{laid_refusal}
use Rattle.bytearrays.specs.Calls.{pack_bytes_reported, pack_bytes_afterwards}
use Rattle.bytearrays.proofs.Calls.{ragged_report, ragged_output, whole_report, whole_output}
use Rattle.bytearrays.proofs.packing.pack_bytes.Goals as goal

pub returns-in_err-check_whole-clause-answer : goal.returns-in_err-check_whole-clause-answer
unfolding pack_bytes_reported
returns-in_err-check_whole-clause-answer c =
    let p = err_from_is_err_and c.from_residual.result c.from_residual.ensures.1 in
    rw (p.1, p.2) (ragged_report _ _ _ _ _ (c.in_err-check_whole.ensures (format_refusal c.args.format) (λ r h. search (rules, laid_refusal))))

pub returns-in_err-check_whole-clause-written : goal.returns-in_err-check_whole-clause-written
unfolding pack_bytes_afterwards pack_bytes_reported
returns-in_err-check_whole-clause-written c =
    ragged_output _ _ _ _ _ (c.in_err-check_whole.ensures (format_refusal c.args.format) (λ r h. search (rules, laid_refusal))) _

pub returns-clause-answer : goal.returns-clause-answer
unfolding pack_bytes_reported
returns-clause-answer c =
    whole_report _ _ _ _ (c.in_ok-check_whole.ensures (format_refusal c.args.format) (λ r h. search (rules, laid_refusal))) _ c.pack_array.ensures.answer

pub returns-clause-written : goal.returns-clause-written
unfolding pack_bytes_afterwards pack_bytes_reported
returns-clause-written c =
    whole_output _ _ _ _ (c.in_ok-check_whole.ensures (format_refusal c.args.format) (λ r h. search (rules, laid_refusal))) _ c.pack_array.ensures.answer _ _ c.pack_array.ensures.kept
    (search rules) (search rules) c.pack_array.ensures.written
