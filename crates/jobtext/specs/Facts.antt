-- What holds of the answers to all texts, as whole statements. Assumes nothing.
use Rattle.std.specs.Prelude.{List, ◌≡◌, ℕ, ◌≤◌, ◌<◌, length, take}
use Rattle.grid.specs.declared.Format.{Format}
use Rattle.rounding.specs.Calls.{refusal}
use Rattle.reports.specs.Reports.{report}
use Rattle.jobs.specs.Layout.{Job, InRange, text_of}
use Rattle.jobs.specs.BadLines.{FirstBad}
use Rattle.jobs.specs.Facts.{longest_text}
use Rattle.jobtext.specs.Answers.{refused}
use Rattle.jobtext.specs.Runs.{format_of, report_of, answer_of, answer_to}

-- a job's text is answered by the job's answer
abbrev pub JobsAreAnswered : Type 0
JobsAreAnswered = (j : Job) → InRange j → answer_to (text_of j) ≡ answer_of j

-- A job is refused where its p, emax, mode or r is, by that number and at place 0, and nowhere else: its arrays have the right
-- lengths.
abbrev pub JobsAreRefusedByNumber : Type 0
JobsAreRefusedByNumber = (j : Job) → InRange j → report_of j ≡ report (refusal (format_of j) j.mode j.r)

-- those numbers are 1 to 4, and 0 where nothing is refused
abbrev pub RefusalsAreFew : Type 0
RefusalsAreFew = (f : Format) (mode r : ℕ) → refusal f mode r ≤ 4

-- a text with a first bad line is refused as 12 with that line
abbrev pub BadLinesAreRefused : Type 0
BadLinesAreRefused = (s : List ℕ) (k : ℕ) → FirstBad s k → answer_to s ≡ refused 12 k

-- and no other text is: the numbers of a job are never refused so
abbrev pub RefusedAs12AreBad : Type 0
RefusedAs12AreBad = (s : List ℕ) (k : ℕ) → k ≤ 9999 → answer_to s ≡ refused 12 k → FirstBad s k

-- every text is one or the other
pub data JobOrBad (s : List ℕ) : Type 0 where
  job : (j : Job) → InRange j → s ≡ text_of j → JobOrBad s
  bad : (k : ℕ) → FirstBad s k → JobOrBad s

abbrev pub EveryTextIsEither : Type 0
EveryTextIsEither = (s : List ℕ) → JobOrBad s

-- a text may be cut anywhere behind the length of the longest job's
abbrev pub LongTextsAnswerAlike : Type 0
LongTextsAnswerAlike = (s : List ℕ) (m : ℕ) → longest_text < m → answer_to (take m s) ≡ answer_to s

-- a buffer of this many bytes has room for every answer
abbrev pub longest_answer : ℕ
longest_answer = 19472

abbrev pub AnswersAreShort : Type 0
AnswersAreShort = (s : List ℕ) → length (answer_to s) ≤ longest_answer
