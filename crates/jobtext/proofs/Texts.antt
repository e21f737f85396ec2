-- The answer to a text, by what was read of it. Assumes nothing.
use mathlib.Core.Bool.{cond}
use mathlib.Core.List.{List}
use mathlib.Core.Path.{◌≡◌, sym, ap, ◌∙◌, subst, fun_ext}
use Prim.Native.Nat.{ℕ, ◌+◌, ◌*◌, ◌≤◌}
use lib.ListN.{get_or}
use Rattle.laws.specs.Lists.{tab, over}
use Rattle.std.specs.Prelude.{Result, Ok, Err}
use Rattle.jobs.specs.declared.BadLine.{BadLine}
use Rattle.jobs.specs.Layout.{Job, has_words}
use Rattle.jobs.specs.Reading.{values_in, reading, job_of}
use Rattle.jobs.proofs.Sizes.{values_are_few, count_in_range}
use Rattle.jobtext.specs.Answers.{refused}
use Rattle.jobtext.specs.Runs.{answer_of, answer_by, answer_to}
use Rattle.jobtext.proofs.Zeros.{zeros, get_or-over_zeros}

-- a job by what is read at each place
abbrev job_by : (ℕ → ℕ) → Job
job_by at =
    record {
      p = at 0;
      emax = at 1;
      sub = at 2;
      mode = at 3;
      r = at 4;
      xs = tab (at 5) (λ (i : ℕ). at (6 + i * cond (has_words (at 3)) 2 1));
      ws = tab (cond (has_words (at 3)) (at 5) 0) (λ (i : ℕ). at (7 + i * 2));
    }

-- values that read alike are the same job's
job_alike : (vs ws : List ℕ) → ((i : ℕ) → get_or vs i 0 ≡ get_or ws i 0) → job_of vs ≡ job_of ws
unfolding job_of
job_alike vs ws same = ap {A = ℕ → ℕ} job_by (fun_ext same)

module _ (text values : List ℕ) (written : values ≡ over (values_in text) (zeros 2054)) where
  read_alike : (i : ℕ) → get_or values i 0 ≡ get_or (values_in text) i 0
  read_alike i = ap {A = List ℕ} (λ l. get_or l i 0) written ∙ get_or-over_zeros (values_in text) 2054 i (values_are_few text)

  -- there are no more places than there may be
  pub few_places : get_or values 5 0 ≤ 1024
  few_places = subst (λ (n : ℕ). n ≤ 1024) (sym (read_alike 5)) (count_in_range text)

  -- the answer to a sound text is its job's
  pub sound_answer : (r : Result Unit BadLine) → r ≡ reading text → r ≡ Ok tt → answer_of (job_of values) ≡ answer_to text
  unfolding answer_to answer_by
  sound_answer r answered sound =
      ap (λ (j : Job). answer_of j) (job_alike values (values_in text) read_alike)
      ∙ ap (λ (t : Result Unit BadLine). answer_by (values_in text) t) (sym sound ∙ answered)

-- the answer to another is the refusal of its bad line
pub bad_answer : (text : List ℕ) (r : Result Unit BadLine) (b : BadLine) → r ≡ reading text → r ≡ Err b → refused 12 b.line ≡ answer_to text
unfolding answer_to answer_by
bad_answer text r b answered bad = ap (λ (t : Result Unit BadLine). answer_by (values_in text) t) (sym bad ∙ answered)
