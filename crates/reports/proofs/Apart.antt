-- Two array calls that are reported alike came to the same. Assumes nothing.
use mathlib.Core.Path.{◌≡◌, refl, sym, ap, ap₂}
use Rattle.std.specs.Prelude.{Result, Ok, Err}
use Rattle.refusals.proofs.Apart.{numbers_apart, number_some}
use Rattle.reports.specs.declared.Refused.{Refused}
use Rattle.reports.specs.declared.Report.{Report}
use Rattle.reports.specs.Reports.{reported_by}

pub reports_apart : (r s : Result Unit Refused) → reported_by r ≡ reported_by s → r ≡ s
reports_apart (Ok x) (Ok y) h = refl
reports_apart (Ok x) (Err e) h = absurd (number_some e.refusal (sym (ap (λ (r : Report). r.number) h)))
reports_apart (Err d) (Ok y) h = absurd (number_some d.refusal (ap (λ (r : Report). r.number) h))
reports_apart (Err d) (Err e) h =
    ap₂ (λ refusal place. Err (record { refusal = refusal; place = place }))
    (numbers_apart d.refusal e.refusal (ap (λ (r : Report). r.number) h))
    (ap (λ (r : Report). r.place) h)
