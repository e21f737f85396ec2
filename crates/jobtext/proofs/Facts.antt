-- What holds of the answers to all texts. Assumes nothing.
use mathlib.Core.Bool.{Bool, true, false, cond}
use mathlib.Core.List.{List, [], ◌++◌}
use mathlib.Core.Path.{◌≡◌, refl, sym, ap, ◌∙◌, subst}
use Prim.Native.Nat.{ℕ, ◌≤◌}
use native.Mathlib.Omega.{arith}
use lib.Dec.{eqb}
use lib.ListN.{length, take, drop, length-replicate}
use lib.Seq.{take_all, drop-append_seam}
use Rattle.std.specs.Prelude.{Result, Ok, Err, Some}
use Rattle.std.proofs.lemmas.Option.{same_Some}
use Rattle.laws.specs.Lists.{tab}
use Rattle.laws.proofs.Lists.{length-tab}
use Rattle.magnitudes.specs.Modes.{mode_of}
use Rattle.arrays.specs.Rounding.{refusal_of, rounded_at, afterwards}
use Rattle.reports.specs.declared.Report.{Report}
use Rattle.lines.specs.declared.Form.TheVariants.{Number}
use Rattle.lines.specs.declared.Found.{Found}
use Rattle.lines.specs.Reading.{found, read_line}
use Rattle.lines.proofs.Forms.{number_fits}
use Rattle.lines.proofs.Facts.{written_is_read}
use Rattle.jobs.specs.declared.BadLine.{BadLine}
use Rattle.jobs.specs.Layout.{Job, InRange, text_of}
use Rattle.jobs.specs.BadLines.{FirstBad}
use Rattle.jobs.specs.Reading.{values_in, reading, job_of}
use Rattle.jobs.proofs.Facts.{jobs_are_read, read_are_jobs, named_is_first_bad, first_bad_is_named}
use Rattle.jobs.proofs.Sizes.{jobs_are_short, lines_are_few}
use Rattle.jobs.proofs.Cuts.{long_texts_are_cut}
use Rattle.jobtext.specs.Answers.{status_key, place_key, status_line, count_line, place_line, pattern_lines, accepted, refused, printed}
use Rattle.jobtext.specs.Runs.{format_of, room, report_of, patterns_of, answer_of, answer_by, answer_to}
use Rattle.jobtext.specs.Facts.{JobsAreAnswered, BadLinesAreRefused, JobOrBad, job, bad, EveryTextIsEither, LongTextsAnswerAlike, longest_answer, AnswersAreShort, RefusedAs12AreBad}
use Rattle.jobtext.proofs.Lengths.{accepted_short, refused_short}
use Rattle.jobtext.proofs.Refusals.{refusals_are_few, jobs_are_refused_by_number}

-- a job's text is read as the job, and so answered by its answer
pub jobs_are_answered : JobsAreAnswered
unfolding answer_to answer_by
jobs_are_answered j range =
    ap (answer_by (values_in (text_of j))) (jobs_are_read j range).0 ∙ ap answer_of (jobs_are_read j range).1

-- a first bad line is the one that is named
pub bad_lines_are_refused : BadLinesAreRefused
unfolding answer_to answer_by
bad_lines_are_refused s k first = ap (answer_by (values_in s)) (first_bad_is_named s k first)

-- every text is a job's or has a first bad line
pub every_text_is_either : EveryTextIsEither
every_text_is_either s = go (reading s) refl
  where
    go : (a : Result Unit BadLine) → reading s ≡ a → JobOrBad s
    go (Ok _) e = job (job_of (values_in s)) (read_are_jobs s e).0 (read_are_jobs s e).1
    go (Err b) e = bad b.line (named_is_first_bad s b.line e)

-- a text that is cut behind the length of the longest job's is that job's still, or has the same first bad line
pub long_texts_answer_alike : LongTextsAnswerAlike
unfolding answer_to answer_by
long_texts_answer_alike s m enough = go (reading s) refl
  where
    go : (a : Result Unit BadLine) → reading s ≡ a → answer_to (take m s) ≡ answer_to s
    go (Ok _) e =
        let j = job_of (values_in s) in
        let short = jobs_are_short j (read_are_jobs s e).0 in
        let long : length s ≡ length (text_of j) = ap length (read_are_jobs s e).1 in
        ap answer_to (take_all m s (omega arith))
    go (Err b) e =
        ap (answer_by (values_in (take m s))) (long_texts_are_cut s m enough ∙ e) ∙ sym (ap (answer_by (values_in s)) e)

-- as many patterns are written as there are inputs
patterns_many : (j : Job) → length (patterns_of j) ≡ length j.xs
unfolding afterwards
patterns_many j = go (eqb (refusal_of (format_of j) j.mode j.r j.ws j.xs (room j)) 0)
  where
    answers : List ℕ
    answers = tab (length j.xs) (rounded_at (format_of j) (mode_of j.mode j.r) j.ws j.xs)

    go : (b : Bool) → length (cond b answers (room j)) ≡ length j.xs
    go true = length-tab (length j.xs) (rounded_at (format_of j) (mode_of j.mode j.r) j.ws j.xs)
    go false = length-replicate (length j.xs) 0

-- so a job's answer is short
answer_short : (j : Job) → length j.xs ≤ 1024 → length (answer_of j) ≤ longest_answer
unfolding answer_of printed
answer_short j many = go (eqb (report_of j).number 0)
  where
    go : (b : Bool) → length (cond b (accepted (patterns_of j)) (refused (report_of j).number (report_of j).place)) ≤ longest_answer
    go true = omega (arith, accepted_short (patterns_of j), patterns_many j)
    go false = omega (arith, refused_short (report_of j).number (report_of j).place)

-- and so is a refusal
pub answers_are_short : AnswersAreShort
unfolding answer_to answer_by
answers_are_short s = go (reading s) refl
  where
    go : (a : Result Unit BadLine) → reading s ≡ a → length (answer_by (values_in s) a) ≤ longest_answer
    go (Ok _) e = answer_short (job_of (values_in s)) (read_are_jobs s e).0.many
    go (Err b) e = omega (arith, refused_short 12 b.line)

-- ---- which answers say 12

-- the status is read off an answer's first line,
status_read : (n : ℕ) (rest : List ℕ) → n ≤ 9999 → read_line status_key (Number 9999) (status_line n ++ rest) ≡ Some (found n (length (status_line n)))
status_read n rest small = written_is_read status_key (Number 9999) n rest (number_fits 9999 n (omega arith) small)

-- so two that begin alike have the same
status_once : (m n : ℕ) (r t : List ℕ) → m ≤ 9999 → n ≤ 9999 → status_line m ++ r ≡ status_line n ++ t → m ≡ n
status_once m n r t small also same =
    let first = status_read m r small in
    let second = status_read n t also in
    let both : Some (found m (length (status_line m))) ≡ Some (found n (length (status_line n))) =
    sym first ∙ ap (read_line status_key (Number 9999)) same ∙ second in
    ap (λ (f : Found). f.value) (same_Some _ _ both)

-- and the place off the second line of a refusal
place_once : (m n number : ℕ) → m ≤ 9999 → n ≤ 9999 → refused number m ≡ refused number n → m ≡ n
unfolding refused
place_once m n number small also same =
    let lines : place_line m ≡ place_line n =
    sym (drop-append_seam (status_line number) (place_line m))
    ∙ ap (λ (l : List ℕ). drop (length (status_line number)) l) same
    ∙ drop-append_seam (status_line number) (place_line n) in
    let both : Some (found m (length (place_line m))) ≡ Some (found n (length (place_line n))) =
    sym (place_read m small) ∙ ap (read_line place_key (Number 9999)) (ap (λ (l : List ℕ). l ++ []) lines) ∙ place_read n also in
    ap (λ (f : Found). f.value) (same_Some _ _ both)
  where
    place_read : (k : ℕ) → k ≤ 9999 → read_line place_key (Number 9999) (place_line k ++ []) ≡ Some (found k (length (place_line k)))
    place_read k short = written_is_read place_key (Number 9999) k [] (number_fits 9999 k (omega arith) short)

-- no job's answer says 12
job_not_12 : (j : Job) (k : ℕ) → InRange j → answer_of j ≡ refused 12 k → ⊥
unfolding answer_of printed refused accepted
job_not_12 j k range = go (eqb (report_of j).number 0)
  where
    few : (report_of j).number ≤ 4
    few =
        subst (λ (n : ℕ). n ≤ 4) (sym (ap (λ (r : Report). r.number) (jobs_are_refused_by_number j range)))
        (refusals_are_few (format_of j) j.mode j.r)

    go : (b : Bool) → cond b (accepted (patterns_of j)) (refused (report_of j).number (report_of j).place) ≡ refused 12 k → ⊥
    go true same =
        let zero_is : ◌≡◌ {A = ℕ} 0 12 =
        status_once 0 12 (count_line (length (patterns_of j)) ++ pattern_lines (patterns_of j)) (place_line k) (omega arith) (omega arith) same in
        omega (arith, zero_is)
    go false same =
        let is = status_once (report_of j).number 12 (place_line (report_of j).place) (place_line k) (omega (arith, few)) (omega arith) same in
        omega (arith, is, few)

-- so a text that is answered with 12 has the first bad line that is named
pub refused_as_12_are_bad : RefusedAs12AreBad
unfolding answer_to answer_by
refused_as_12_are_bad s k small same = go (reading s) refl same
  where
    go : (a : Result Unit BadLine) → reading s ≡ a → answer_by (values_in s) a ≡ refused 12 k → FirstBad s k
    go (Ok _) e says = absurd (job_not_12 (job_of (values_in s)) k (read_are_jobs s e).0 says)
    go (Err b) e says =
        let few = lines_are_few s b.line e in
        subst (λ (n : ℕ). FirstBad s n) (place_once b.line k 12 (omega arith) small says) (named_is_first_bad s b.line e)
