-- A text that is longer than any job's reads as its start does, if that is longer too: what stands behind the start can neither
-- make it a job's text nor a bad line good. Assumes nothing.
use mathlib.Core.List.{List}
use mathlib.Core.Logic.{◌⊎◌, inl, inr}
use mathlib.Core.Path.{◌≡◌, refl, sym, ap, ◌∙◌}
use Prim.Native.Nat.{ℕ, ◌≤◌, ◌<◌}
use native.Mathlib.Nat.{le_trans, le_of_lt}
use native.Mathlib.Omega.{arith}
use lib.ListN.{length, take}
use lib.Seq.{take_all, length-take-le}
use Rattle.laws.proofs.Orders.{below_or_not}
use Rattle.std.specs.Prelude.{Result, Ok, Err}
use Rattle.jobs.specs.declared.BadLine.{BadLine}
use Rattle.jobs.specs.Layout.{Job, InRange, text_of}
use Rattle.jobs.specs.BadLines.{first_lines, GoodLines, FirstBad}
use Rattle.jobs.specs.Reading.{values_in, reading, job_of}
use Rattle.jobs.specs.Facts.{longest_text, LongTextsAreCut}
use Rattle.jobs.proofs.Starts.{length-first_lines, times_cut, cut_keeps_lines, cut_keeps_ends, ended_lines_kept}
use Rattle.jobs.proofs.Sizes.{jobs_are_short}
use Rattle.jobs.proofs.Facts.{read_are_jobs, named_is_first_bad, first_bad_is_named}

-- good lines take no more bytes than a job's text can
good_lines_are_short : (s : List ℕ) (k : ℕ) → GoodLines s k → length (first_lines k s) ≤ longest_text
good_lines_are_short s k g =
    let same : length (first_lines k (text_of g.job)) ≡ length (first_lines k s) = ap length g.same in
    omega (arith, length-first_lines k (text_of g.job), jobs_are_short g.job g.in_range)

-- a text that is longer than any job's is no job's
long_is_no_job : (s : List ℕ) → longest_text < length s → (j : Job) → InRange j → s ≡ text_of j → ⊥
long_is_no_job s long j fit e = let same : length s ≡ length (text_of j) = ap length e in omega (arith, jobs_are_short j fit)

module _ (s : List ℕ) (m : ℕ) (enough : longest_text < m) where
  -- good lines are good in the text cut short,
  cut_is_good : (k : ℕ) → GoodLines s k → GoodLines (take m s) k
  cut_is_good k g =
      let short : length (first_lines k s) ≤ m = le_trans (good_lines_are_short s k g) (le_of_lt enough) in
      record {
        ended = cut_keeps_ends k m s short g.ended;
        job = g.job;
        in_range = g.in_range;
        same = g.same ∙ sym (cut_keeps_lines k m s short);
      }

  -- and the other way round
  good_by_cut : (k : ℕ) → GoodLines (take m s) k → GoodLines s k
  good_by_cut k g =
      record {
        ended = le_trans g.ended (times_cut m s);
        job = g.job;
        in_range = g.in_range;
        same = g.same ∙ ended_lines_kept k m s g.ended;
      }

  -- so the first bad line is the same, where something is left that is longer than any job's text
  cut_first_bad : m ≤ length s → (k : ℕ) → FirstBad s k → FirstBad (take m s) k
  cut_first_bad long k f =
      record {
        earlier = f.earlier;
        counted = f.counted;
        before = cut_is_good f.earlier f.before;
        bad = λ g. f.bad (good_by_cut k g);
        no_job = long_is_no_job (take m s) (omega (arith, length-take-le m s long));
      }

-- so the text cut short reads as the whole one does
pub long_texts_are_cut : LongTextsAreCut
long_texts_are_cut s m enough = go (below_or_not m (length s))
  where
    by_reading : m < length s → (a : Result Unit BadLine) → reading s ≡ a → reading (take m s) ≡ reading s
    by_reading long (Ok _) e =
        absurd (long_is_no_job s (omega arith) (job_of (values_in s)) (read_are_jobs s e).0 (read_are_jobs s e).1)
    by_reading long (Err b) e =
        first_bad_is_named (take m s) b.line (cut_first_bad s m enough (le_of_lt long) b.line (named_is_first_bad s b.line e)) ∙ sym e

    go : (m < length s) ⊎ (length s ≤ m) → reading (take m s) ≡ reading s
    go (inl long) = by_reading long (reading s) refl
    go (inr short) = ap reading (take_all m s short)
