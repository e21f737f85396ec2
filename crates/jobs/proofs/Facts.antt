-- The facts about every text: a job's text is read as that job, what is read is a job's text, and the line that is named is the
-- first bad one. Assumes nothing.
use mathlib.Core.Path.{◌≡◌, refl, ap, ◌∙◌}
use Prim.Native.Nat.{ℕ}
use native.Mathlib.Omega.{arith}
use lib.ListN.{length}
use Rattle.std.specs.Prelude.{Result, Ok, Err}
use Rattle.jobs.specs.declared.BadLine.{BadLine}
use Rattle.jobs.specs.Layout.{Job, InRange, text_of}
use Rattle.jobs.specs.BadLines.{GoodLines}
use Rattle.jobs.specs.Reading.{values_in, bad_at, reading, job_of}
use Rattle.jobs.specs.Facts.{JobsAreRead, ReadAreJobs, NamedIsFirstBad, FirstBadIsNamed}
use Rattle.jobs.proofs.Readings.{named}
use Rattle.jobs.proofs.Jobs.{read_as, read_sound, sound_text, read_range}
use Rattle.jobs.proofs.GoodLines.{bad_once, read_good, good_read}

-- no text is sound and has a bad line
never_both : (r : Result Unit BadLine) (k : ℕ) → r ≡ Ok tt → r ≡ bad_at k → ⊥
never_both r k sound bad = let z : ◌≡◌ {A = ℕ} 0 1 = cc in omega arith

-- nothing sound is refused
pub jobs_are_read : JobsAreRead
jobs_are_read j range = (read_sound j range, read_as j range)

-- nothing sloppy is let in
pub read_are_jobs : ReadAreJobs
read_are_jobs s sound = (read_range s, sound_text s sound)

-- the line that is named is the first bad one,
pub named_is_first_bad : NamedIsFirstBad
named_is_first_bad s k bad =
    record {
      earlier = length (values_in s);
      counted = named s k bad;
      before = read_good s;
      bad = λ (good : GoodLines s k). omega (arith, named s k bad, good_read s k good);
      no_job =
          λ (j : Job) (range : InRange j) (text : s ≡ text_of j).
          never_both (reading s) k (ap reading text ∙ read_sound j range) bad;
    }

-- and a first bad line is named
pub first_bad_is_named : FirstBadIsNamed
first_bad_is_named s k first = go (reading s) refl
  where
    go : (r : Result Unit BadLine) → reading s ≡ r → r ≡ bad_at k
    go (Ok _) sound = absurd (first.no_job (job_of (values_in s)) (read_are_jobs s sound).0 (read_are_jobs s sound).1)
    go (Err b) bad = ap bad_at (bad_once s b.line k (named_is_first_bad s b.line bad) first)
