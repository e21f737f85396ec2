-- What holds of every text (document 01, "The job text"), as whole statements. Assumes nothing.
use Rattle.std.specs.Prelude.{List, Ok, ◌≡◌, ℕ, ◌≤◌, ◌<◌, length, take}
use Rattle.jobs.specs.Layout.{Job, InRange, text_of}
use Rattle.jobs.specs.BadLines.{FirstBad}
use Rattle.jobs.specs.Reading.{values_in, bad_at, reading, job_of}

-- nothing sound is refused: the text of a job in range is read, and read as that job
abbrev pub JobsAreRead : Type 0
JobsAreRead = (j : Job) → InRange j → (reading (text_of j) ≡ Ok tt) × (job_of (values_in (text_of j)) ≡ j)

-- nothing sloppy is let in: a text that is read as sound is the text of a job in range
abbrev pub ReadAreJobs : Type 0
ReadAreJobs = (s : List ℕ) → reading s ≡ Ok tt → InRange (job_of (values_in s)) × (s ≡ text_of (job_of (values_in s)))

-- the line that is named is the first bad one,
abbrev pub NamedIsFirstBad : Type 0
NamedIsFirstBad = (s : List ℕ) (k : ℕ) → reading s ≡ bad_at k → FirstBad s k

-- and a first bad line is named, so that there is only one
abbrev pub FirstBadIsNamed : Type 0
FirstBadIsNamed = (s : List ℕ) (k : ℕ) → FirstBad s k → reading s ≡ bad_at k

-- how long a job's text can be: with words a mode has one digit, and 1024 places take 38 bytes each
abbrev pub longest_text : ℕ
longest_text = 38956

abbrev pub JobsAreShort : Type 0
JobsAreShort = (j : Job) → InRange j → length (text_of j) ≤ longest_text

-- how far a line number can go: one line behind the last of 2054
abbrev pub LinesAreFew : Type 0
LinesAreFew = (s : List ℕ) (k : ℕ) → reading s ≡ bad_at k → k ≤ 2055

-- so of a longer text it is enough to see a start that is longer too
abbrev pub LongTextsAreCut : Type 0
LongTextsAreCut = (s : List ℕ) (m : ℕ) → longest_text < m → reading (take m s) ≡ reading s
