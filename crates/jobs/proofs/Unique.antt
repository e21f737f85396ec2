-- Every promise of this crate leaves one answer, and the one that writes leaves one outcome: two answers that it allows for the same
-- arguments are equal, and so are the values that it leaves. Each is an equation with the definition that the contract names, so two
-- of them meet there. Assumes nothing.
use mathlib.Core.Path.{sym, ◌∙◌}
use Rattle.laws.specs.Promises.{OneAnswer, OneOutcome}
use Rattle.jobs.proofs.layout.has_words.Reads as has_words
use Rattle.jobs.proofs.texts.read_job.Reads as read_job

pub has_words_unique : OneAnswer has_words.Post
has_words_unique κs a y z s t p q = p ∙ sym q

-- what stands in `values`, the second parameter, as `read_job` returns
pub read_job_unique : OneOutcome read_job.Post (λ κs lent. lent.1.0.now)
read_job_unique κs a y z s t p q = (p.0 ∙ sym q.0, p.1 ∙ sym q.1)
