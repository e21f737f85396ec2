-- `codearrays::calls::unpack_array` meets its contract. Assumes nothing.
use mathlib.Core.Path.{◌∙◌}
use Rattle.std.proofs.Common.{rules}
use Rattle.std.proofs.lemmas.Result.{err_from_is_err_and}
use Rattle.codearrays.specs.Codes.{unpack_number, unpack_pattern}
use Rattle.codearrays.specs.Loops.{unpack_number_by, unpack_pattern_by}
use Rattle.codearrays.proofs.Decided.{decided_laid}
use Rattle.codearrays.proofs.Turns.{unpacking_follows}
use Rattle.codearrays.proofs.WholeArrays.{decided_report, decided_output, decided_long, unpack_report, unpack_output}
use Rattle.codearrays.proofs.calls.unpack_array.Goals as goal

pub returns-in_err-layout-clause-answer : goal.returns-in_err-layout-clause-answer
returns-in_err-layout-clause-answer g c =
    let p = err_from_is_err_and c.from_residual.result c.from_residual.ensures.1 in
    rw (p.1, p.2)
    (decided_report c.args.format _ _ _ _ c.count.ensures c.count-2.ensures _ c.in_err-layout.ensures (unpack_number c.args.format) (unpack_pattern c.args.format))

pub returns-in_err-layout-clause-written : goal.returns-in_err-layout-clause-written
returns-in_err-layout-clause-written g c =
    decided_output c.args.format _ _ _ _ c.count.ensures c.count-2.ensures _ c.in_err-layout.ensures (unpack_number c.args.format) (unpack_pattern c.args.format)

pub convert_all-requires-clause-long : goal.convert_all-requires-clause-long
convert_all-requires-clause-long g c =
    decided_long c.args.format _ _ _ _ c.count.ensures c.count-2.ensures _ c.in_ok-layout.ensures

pub returns-clause-answer : goal.returns-clause-answer
returns-clause-answer g c =
    let l = c.in_ok-layout.layout in
    c.convert_all.ensures.answer (unpack_number_by l) (unpack_pattern_by l) (unpacking_follows l _ (λ x r h. search rules))
    ∙ unpack_report c.args.format l (decided_laid c.args.format _ _ l c.in_ok-layout.ensures) _ _

pub returns-clause-written : goal.returns-clause-written
returns-clause-written g c =
    let l = c.in_ok-layout.layout in
    c.convert_all.ensures.written (unpack_number_by l) (unpack_pattern_by l) (unpacking_follows l _ (λ x r h. search rules))
    ∙ unpack_output c.args.format l (decided_laid c.args.format _ _ l c.in_ok-layout.ensures) _ _
