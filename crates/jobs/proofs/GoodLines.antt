-- The good lines of a text are those that are read: no fewer, and no more. Assumes nothing.
use mathlib.Core.Bool.{Bool}
use mathlib.Core.List.{List, [], ◌++◌, append-nil}
use mathlib.Core.Path.{◌≡◌, sym, ap, ◌∙◌}
use Prim.Native.Nat.{ℕ, ◌+◌, ◌≤◌, ◌<◌}
use native.Mathlib.Nat.{le_refl, le_trans}
use native.Mathlib.Omega.{arith}
use lib.ListN.{length, take, drop, length-take}
use lib.Seq.{take-length}
use Rattle.laws.specs.Lists.{times}
use Rattle.laws.proofs.Orders.{le_of_not_lt}
use Rattle.lines.specs.Lines.{line_feed}
use Rattle.jobs.specs.Layout.{Job, has_words, lines_from, values_of, text_of}
use Rattle.jobs.specs.BadLines.{first_lines, GoodLines, FirstBad}
use Rattle.jobs.specs.Reading.{words_in, lines_in, values_in, used_in, job_of}
use Rattle.jobs.proofs.Whole.{values_within, values_written}
use Rattle.jobs.proofs.Values.{length_values, job_begins}
use Rattle.jobs.proofs.Ranges.{range_fits}
use Rattle.jobs.proofs.Jobs.{lines_read, read_range}
use Rattle.jobs.proofs.FirstLines.{first_front, first_fewer, first_times, first_first}
use Rattle.jobs.proofs.Feeds.{first_rows, row_feeds}

-- where so many lines are good, fewer are
good_fewer : (s : List ℕ) (k m : ℕ) → k ≤ m → GoodLines s m → GoodLines s k
good_fewer s k m few good =
    record {
      ended = le_trans few good.ended;
      job = good.job;
      in_range = good.in_range;
      same =
          sym (first_first k m (text_of good.job) few) ∙ ap (λ (l : List ℕ). first_lines k l) good.same ∙ first_first k m s few;
    }

-- so no first bad line comes before another
bad_not_later : (s : List ℕ) (k m : ℕ) → FirstBad s k → FirstBad s m → m ≤ k
bad_not_later s k m one other =
    le_of_not_lt (λ (before : k < m). one.bad (good_fewer s k other.earlier (omega (arith, other.counted)) other.before))

-- and there is only one
pub bad_once : (s : List ℕ) (k m : ℕ) → FirstBad s k → FirstBad s m → k ≡ m
bad_once s k m one other = omega (arith, bad_not_later s k m one other, bad_not_later s m k other one)

-- ---- good lines and lines that are read

-- a text that begins with lines has these first
first_begins : (words : Bool) (vs rest : List ℕ) → first_lines (length vs) (lines_from words 0 vs ++ rest) ≡ lines_from words 0 vs
first_begins words vs rest =
    first_rows words 0 (length vs) vs rest (le_refl (length vs)) ∙ ap (λ (l : List ℕ). lines_from words 0 l) (take-length vs)

-- the first lines of a job's text hold its first values
first_job : (j : Job) (k : ℕ) → k ≤ length (values_of j) → first_lines k (text_of j) ≡ lines_from (words_in (values_of j)) 0 (take k (values_of j))
unfolding text_of values_of
first_job j k within =
    ap (λ (l : List ℕ). first_lines k l) (sym (append-nil (text_of j))) ∙ first_rows (has_words j.mode) 0 k (values_of j) [] within

-- it has as many line feeds as it has values
job_feeds : (j : Job) → times line_feed (text_of j) ≡ length (values_of j)
unfolding text_of times
job_feeds j =
    ap (λ (l : List ℕ). times line_feed l) (sym (append-nil (text_of j)))
    ∙ row_feeds (has_words j.mode) 0 (values_of j) []
    ∙ omega arith

-- the text of the job with these values begins with the lines that hold them
made_first : (vs : List ℕ) → length vs ≤ 6 + lines_in vs → first_lines (length vs) (text_of (job_of vs)) ≡ lines_from (words_in vs) 0 vs
unfolding job_of values_of
made_first vs within =
    first_job (job_of vs) (length vs) enough
    ∙ ap (λ (l : List ℕ). lines_from (words_in vs) 0 l) (job_begins vs within)
  where
    enough : length vs ≤ length (values_of (job_of vs))
    enough = omega (arith, ap length (job_begins vs within), length-take (length vs) (values_of (job_of vs)))

-- the lines that are read are good: the job that completes them has 0 for what is missing
pub read_good : (s : List ℕ) → GoodLines s (length (values_in s))
read_good s =
    record {
      ended = omega (arith, ap (λ (l : List ℕ). times line_feed l) text, row_feeds words 0 (values_in s) (drop (used_in s) s));
      job = job_of (values_in s);
      in_range = read_range s;
      same =
          made_first (values_in s) (values_within s)
          ∙ sym (ap (λ (l : List ℕ). first_lines (length (values_in s)) l) text ∙ first_begins words (values_in s) (drop (used_in s) s));
    }
  where
    words : Bool
    words = words_in (values_in s)

    text : s ≡ lines_from words 0 (values_in s) ++ drop (used_in s) s
    text = values_written s

-- and good lines are read, since the job's text begins with the same ones
pub good_read : (s : List ℕ) (k : ℕ) → GoodLines s k → k ≤ length (values_in s)
good_read s k good = omega (arith, ap length first, length-take k (values_in s), length-take k vs, within)
  where
    j : Job
    j = good.job

    vs : List ℕ
    vs = values_of j

    within : k ≤ length vs
    within =
        omega (
          arith,
          first_times k s good.ended,
          ap (λ (l : List ℕ). times line_feed l) good.same,
          first_fewer k (text_of j),
          job_feeds j,
        )

    begins : s ≡ lines_from (words_in vs) 0 (take k vs) ++ drop (length (first_lines k s)) s
    begins =
        sym (first_front k s)
        ∙ ap (λ (l : List ℕ). l ++ drop (length (first_lines k s)) s) (sym good.same ∙ first_job j k within)

    first : take k (values_in s) ≡ take k vs
    first =
        lines_read vs (λ words. range_fits words j good.in_range) s k (drop (length (first_lines k s)) s) within
        (omega (arith, length_values j good.in_range))
        begins
