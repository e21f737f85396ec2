-- The answer to a text (document 01, "The job text" and "Refusal numbers"): a text that is no job's is refused as 12, at its first
-- bad line, before any other refusal; a job is answered as the array call answers it. Assumes nothing.
use Rattle.std.specs.Prelude.{Result, Ok, Err, List, ℕ, eqb, length, replicate}
use Rattle.grid.specs.declared.Format.{Format}
use Rattle.reports.specs.declared.Report.{Report}
use Rattle.arrays.specs.Rounding.{reported, afterwards}
use Rattle.jobs.specs.declared.BadLine.{BadLine}
use Rattle.jobs.specs.Layout.{Job}
use Rattle.jobs.specs.Reading.{values_in, reading, job_of}
use Rattle.jobtext.specs.Answers.{refused, printed}

-- the format of a job
abbrev pub format_of : Job → Format
format_of j = record { p = j.p; emax = j.emax; sub = eqb j.sub 1 }

-- an output as long as the job's inputs
abbrev pub room : Job → List ℕ
room j = replicate (length j.xs) 0

-- what the array call reports of the job, and what it writes
abbrev pub report_of : Job → Report
report_of j = reported (format_of j) j.mode j.r j.ws j.xs (room j)

abbrev pub patterns_of : Job → List ℕ
patterns_of j = afterwards (format_of j) j.mode j.r j.ws j.xs (room j)

-- the answer to a job
unfoldable pub answer_of : Job → List ℕ
answer_of j = printed (report_of j) (patterns_of j)

-- ---- the answer to a text. What it is for every text is said by `jobs_are_answered`, `bad_lines_are_refused` and
-- `every_text_is_either`; here it is computed, by what is read of the text.

-- of a sound text it goes by its values, and of another by its first bad line
unfoldable pub answer_by : List ℕ → Result Unit BadLine → List ℕ
answer_by values (Ok _) = answer_of (job_of values)
answer_by values (Err b) = refused 12 b.line

unfoldable pub answer_to : List ℕ → List ℕ
answer_to s = answer_by (values_in s) (reading s)
