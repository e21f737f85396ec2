-- The printed answer (document 01, "The job text"): a status and a second line, and, where nothing is refused, a line for each
-- pattern. Every number that is printed so has four digits at most (`refusals_are_few`, `lines_are_few`). Assumes nothing.
use Rattle.std.specs.Prelude.{cond, List, [], ◌∷◌, ◌++◌, ℕ, eqb, length}
use Rattle.lines.specs.declared.Form.TheVariants.{Number, Word}
use Rattle.lines.specs.Lines.{line}
use Rattle.reports.specs.declared.Report.{Report}

-- ---- the lines of an answer

-- their keys
abbrev pub status_key : List ℕ
status_key = 115 ∷ 116 ∷ 97 ∷ 116 ∷ 117 ∷ 115 ∷ 61 ∷ []  -- status=

abbrev pub count_key : List ℕ
count_key = 110 ∷ 61 ∷ []  -- n=

abbrev pub place_key : List ℕ
place_key = 97 ∷ 116 ∷ 61 ∷ []  -- at=

abbrev pub pattern_key : List ℕ
pattern_key = 121 ∷ 61 ∷ []  -- y=

-- and what stands in them: three numbers, and a pattern in sixteen digits
abbrev pub status_line : ℕ → List ℕ
status_line number = line status_key (Number 9999) number

abbrev pub count_line : ℕ → List ℕ
count_line n = line count_key (Number 9999) n

abbrev pub place_line : ℕ → List ℕ
place_line place = line place_key (Number 9999) place

abbrev pub pattern_line : ℕ → List ℕ
pattern_line y = line pattern_key Word y

-- ---- the answer

-- a line for each pattern, in order
unfoldable pub pattern_lines : List ℕ → List ℕ
pattern_lines [] = []
pattern_lines (y ∷ ys) = pattern_line y ++ pattern_lines ys

-- a job that is answered: status 0, how many patterns there are, and the patterns
unfoldable pub accepted : List ℕ → List ℕ
accepted ys = status_line 0 ++ (count_line (length ys) ++ pattern_lines ys)

-- one that is refused: the number and the place, and no more
unfoldable pub refused : ℕ → ℕ → List ℕ
refused number place = status_line number ++ place_line place

-- what is printed of an array call, by its report and its output
unfoldable pub printed : Report → List ℕ → List ℕ
printed report ys = cond (eqb report.number 0) (accepted ys) (refused report.number report.place)
