-- How a job text is read: line after line, for as long as they are as laid out. Assumes nothing.
use Rattle.std.specs.Prelude.{Option, Some, None, Result, Ok, Err, Bool, false, cond, ◌&&◌, List, [], ◌∷◌, ◌++◌, ℕ, zero, suc, ◌+◌, ◌*◌, eqb, length, get_or, drop}
use Rattle.laws.specs.Lists.{tab}
use Rattle.lines.specs.declared.Found.{Found}
use Rattle.lines.specs.Reading.{read_line}
use Rattle.jobs.specs.declared.BadLine.{BadLine}
use Rattle.jobs.specs.Layout.{Job, has_words, rule_at}

-- the values of the lines that were read, and how many bytes those lines take
pub record Lines : Type 0 where
  pub values : List ℕ
  pub used : ℕ

abbrev pub no_lines : Lines
no_lines = record { values = []; used = 0 }

-- a line that was found at the start of a text, and what is read behind it; or nothing
abbrev pub and_then : Option Found → List ℕ → (List ℕ → Lines) → Lines
and_then (Some f) s on = record { values = f.value ∷ (on (drop f.used s)).values; used = f.used + (on (drop f.used s)).used }
and_then None s on = no_lines

-- the line i that the text begins with
abbrev pub line_at : Bool → ℕ → List ℕ → Option Found
line_at words i s = read_line (rule_at words i).key (rule_at words i).form s

-- up to m lines from line i on, as far as they are as laid out
unfoldable pub read_from : Bool → ℕ → ℕ → List ℕ → Lines
read_from words i zero s = no_lines
read_from words i (suc m) s = and_then (line_at words i s) s (read_from words (suc i) m)

-- ---- a whole text: first the six lines, then those that they ask for

-- how many lines n places take
unfoldable pub place_lines : Bool → ℕ → ℕ
place_lines words n = n * cond words 2 1

-- the six lines
unfoldable pub heads_in : List ℕ → Lines
heads_in s = read_from false 0 6 s

-- whether the mode among these values has words
abbrev pub words_in : List ℕ → Bool
words_in vs = has_words (get_or vs 3 0)

-- how many lines they ask for behind the six: none where n is missing
unfoldable pub lines_in : List ℕ → ℕ
lines_in vs = place_lines (words_in vs) (get_or vs 5 0)

-- the lines of the places
unfoldable pub places_in : List ℕ → Lines
places_in s = read_from (words_in (heads_in s).values) 6 (lines_in (heads_in s).values) (drop (heads_in s).used s)

-- all values that are read, and the bytes of their lines
unfoldable pub values_in : List ℕ → List ℕ
values_in s = (heads_in s).values ++ (places_in s).values

unfoldable pub used_in : List ℕ → ℕ
used_in s = (heads_in s).used + (places_in s).used

-- what is read of a text whose first bad line is this, counted from 1; a sound one has none
abbrev pub bad_at : ℕ → Result Unit BadLine
bad_at k = Err (record { line = k })

-- sound is a text of which every line is read, with nothing left; of any other the line behind those that are read is bad
unfoldable pub reading : List ℕ → Result Unit BadLine
reading s =
    cond (eqb (length (values_in s)) (6 + lines_in (heads_in s).values) && eqb (used_in s) (length s)) (Ok tt) (bad_at (suc (length (values_in s))))

-- the job with these values; 0 stands for what is missing
unfoldable pub job_of : List ℕ → Job
job_of vs =
    record {
      p = get_or vs 0 0;
      emax = get_or vs 1 0;
      sub = get_or vs 2 0;
      mode = get_or vs 3 0;
      r = get_or vs 4 0;
      xs = tab (get_or vs 5 0) (λ (i : ℕ). get_or vs (6 + i * cond (words_in vs) 2 1) 0);
      ws = tab (cond (words_in vs) (get_or vs 5 0) 0) (λ (i : ℕ). get_or vs (7 + i * 2) 0);
    }
