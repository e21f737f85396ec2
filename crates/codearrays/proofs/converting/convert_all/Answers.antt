-- `codearrays::converting::convert_all` meets its contract. Assumes nothing.
use mathlib.Core.Path.{refl}
use Rattle.std.proofs.lemmas.Result.{err_from_is_err_and}
use Rattle.codearrays.proofs.Refusals.{accepts_output}
use Rattle.codearrays.proofs.Converted.{found_report, found_output, made_output}
use Rattle.codearrays.proofs.converting.convert_all.Goals as goal

pub returns-in_err-check_all-clause-answer : goal.returns-in_err-check_all-clause-answer
returns-in_err-check_all-clause-answer g c refuses writes follows =
    let p = err_from_is_err_and c.from_residual.result c.from_residual.ensures.1 in
    rw (p.1, p.2)
    (found_report refuses _ _ _ _ refl refl (accepts_output 0 _ _ refl c.requires.long) _
    (c.in_err-check_all.ensures refuses writes follows))

pub returns-in_err-check_all-clause-written : goal.returns-in_err-check_all-clause-written
returns-in_err-check_all-clause-written g c refuses writes follows =
    found_output refuses _ _ _ _ refl refl (accepts_output 0 _ _ refl c.requires.long) _
    (c.in_err-check_all.ensures refuses writes follows) writes

pub returns-clause-answer : goal.returns-clause-answer
returns-clause-answer g c refuses writes follows =
    found_report refuses _ _ _ _ refl refl (accepts_output 0 _ _ refl c.requires.long) _
    (c.in_ok-check_all.ensures refuses writes follows)

pub returns-clause-written : goal.returns-clause-written
returns-clause-written g c refuses writes follows =
    made_output refuses _ _ _ _ refl refl (accepts_output 0 _ _ refl c.requires.long)
    (c.in_ok-check_all.ensures refuses writes follows) writes _ (c.write_all.ensures.written refuses writes follows)
