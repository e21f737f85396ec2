-- `codearrays::calls::pack_array` meets its contract. Assumes nothing.
use mathlib.Core.Path.{◌∙◌}
use Rattle.std.proofs.Common.{rules}
use Rattle.std.proofs.lemmas.Result.{err_from_is_err_and}
use Rattle.codearrays.specs.Codes.{pack_number, pack_code}
use Rattle.codearrays.specs.Loops.{pack_number_by, pack_code_by}
use Rattle.codearrays.proofs.Decided.{decided_laid}
use Rattle.codearrays.proofs.Turns.{packing_follows}
use Rattle.codearrays.proofs.WholeArrays.{decided_report, decided_output, decided_long, pack_report, pack_output}
use Rattle.codearrays.proofs.calls.pack_array.Goals as goal

pub returns-in_err-layout-clause-answer : goal.returns-in_err-layout-clause-answer
returns-in_err-layout-clause-answer g c =
    let p = err_from_is_err_and c.from_residual.result c.from_residual.ensures.1 in
    rw (p.1, p.2)
    (decided_report c.args.format _ _ _ _ c.count.ensures c.count-2.ensures _ c.in_err-layout.ensures (pack_number c.args.format) (pack_code c.args.format))

pub returns-in_err-layout-clause-written : goal.returns-in_err-layout-clause-written
returns-in_err-layout-clause-written g c =
    decided_output c.args.format _ _ _ _ c.count.ensures c.count-2.ensures _ c.in_err-layout.ensures (pack_number c.args.format) (pack_code c.args.format)

pub convert_all-requires-clause-long : goal.convert_all-requires-clause-long
convert_all-requires-clause-long g c =
    decided_long c.args.format _ _ _ _ c.count.ensures c.count-2.ensures _ c.in_ok-layout.ensures

pub returns-clause-answer : goal.returns-clause-answer
returns-clause-answer g c =
    let l = c.in_ok-layout.layout in
    c.convert_all.ensures.answer (pack_number_by l) (pack_code_by l) (packing_follows l _ (λ x r h. search rules))
    ∙ pack_report c.args.format l (decided_laid c.args.format _ _ l c.in_ok-layout.ensures) _ _

pub returns-clause-written : goal.returns-clause-written
returns-clause-written g c =
    let l = c.in_ok-layout.layout in
    c.convert_all.ensures.written (pack_number_by l) (pack_code_by l) (packing_follows l _ (λ x r h. search rules))
    ∙ pack_output c.args.format l (decided_laid c.args.format _ _ l c.in_ok-layout.ensures) _ _
