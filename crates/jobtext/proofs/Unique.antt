-- The promise of this crate's one call leaves one outcome: two lengths that it allows for the same text and output are equal, and so
-- are two outputs. Each is an equation with the definition that the contract names, so two of them meet there. The text is only
-- read and cannot change. Assumes nothing.
use mathlib.Core.Path.{sym, ◌∙◌}
use Rattle.laws.specs.Promises.{OneOutcome}
use Rattle.jobtext.proofs.runs.run_job.Reads as run_job

-- what stands in `out`, the second of the two parameters, as `run_job` returns
pub run_job_unique : OneOutcome run_job.Post (λ κs lent. lent.1.0.now)
run_job_unique κs a y z s t p q = (p.0 ∙ sym q.0, p.1 ∙ sym q.1)
