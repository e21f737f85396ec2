-- Every promise of this crate leaves one answer. Assumes nothing.
use mathlib.Core.Path.{sym, ◌∙◌}
use Rattle.laws.specs.Promises.{OneAnswer}
use Rattle.reports.proofs.report_of.Reads as report_of
use Rattle.reports.proofs.RefusedFromRefusal.from.Reads as refused_from
use Rattle.reports.proofs.ReportFromResultUnitRefused.from.Reads as report_from

pub report_of_unique : OneAnswer report_of.Post
report_of_unique κs a y z s t p q = p ∙ sym q

pub refused_from_unique : OneAnswer refused_from.Post
refused_from_unique κs a y z s t p q = p ∙ sym q

pub report_from_unique : OneAnswer report_from.Post
report_from_unique κs a y z s t p q = p ∙ sym q
