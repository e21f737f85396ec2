-- The first bad line of a text that is no job's: the first that is missing, unended, not as laid out, or surplus (document 01,
-- "The job text"). A line is as laid out where some job's text begins with the lines up to it. Assumes nothing.
use Rattle.std.specs.Prelude.{cond, List, [], ◌∷◌, ◌≡◌, ℕ, zero, suc, ◌≤◌, eqb}
use Rattle.laws.specs.Lists.{times}
use Rattle.lines.specs.Lines.{line_feed}
use Rattle.jobs.specs.Layout.{Job, InRange, text_of}

-- the first k lines of a text, with their line feeds; all of it, where it has no more
unfoldable pub first_lines : ℕ → List ℕ → List ℕ
first_lines zero s = []
first_lines (suc k) [] = []
first_lines (suc k) (b ∷ s) = b ∷ cond (eqb b line_feed) (first_lines k s) (first_lines (suc k) s)

-- the text has k ended lines, and a job's text begins with the same ones
pub record GoodLines (s : List ℕ) (k : ℕ) : Type 0 where
  pub ended : k ≤ times line_feed s
  pub job : Job
  pub in_range : InRange job
  pub same : first_lines k (text_of job) ≡ first_lines k s

-- Line k, counted from 1, is the first bad one: the lines before it are good, and with it they are not, since it is missing, unended,
-- not as laid out or surplus. `earlier` is how many those before it are. A job's own text has no bad line, though no line follows
-- its last.
pub record FirstBad (s : List ℕ) (k : ℕ) : Type 0 where
  pub earlier : ℕ
  pub counted : k ≡ suc earlier
  pub before : GoodLines s earlier
  pub bad : GoodLines s k → ⊥
  pub no_job : (j : Job) → InRange j → s ≡ text_of j → ⊥
