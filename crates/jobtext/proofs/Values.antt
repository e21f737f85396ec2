-- A job by its values: the places that its arrays are filled from, and its answer. Assumes nothing.
use mathlib.Core.Bool.{cond}
use mathlib.Core.List.{List}
use mathlib.Core.Path.{◌≡◌, sym, ap, ap₂, ◌∙◌}
use Prim.Native.Nat.{ℕ}
use lib.Dec.{eqb}
use lib.ListN.{length, get_or}
use Rattle.laws.specs.Lists.{tab}
use Rattle.laws.proofs.Lists.{length-tab}
use Rattle.grid.specs.declared.Format.{Format}
use Rattle.arrays.specs.Rounding.{reported, afterwards}
use Rattle.jobs.specs.Reading.{words_in, job_of}
use Rattle.jobtext.specs.Answers.{printed}
use Rattle.jobtext.specs.Runs.{format_of, answer_of}
use Rattle.jobtext.proofs.Spreads.{spread_at}
use Rattle.jobtext.proofs.Zeros.{zeros}

-- ---- the call by its arguments

-- what is printed of the call with these arguments
abbrev pub called : Format → ℕ → ℕ → List ℕ → List ℕ → List ℕ → List ℕ
called f mode r words xs ys = printed (reported f mode r words xs ys) (afterwards f mode r words xs ys)

-- ---- the values' places

-- the call with what lies at the places is the job's
module _ (values : List ℕ) (apart : ℕ) (xs ws xs' ws' ys page : List ℕ) (f : Format)
    (wide : apart ≡ cond (words_in values) 2 1) (inputs : length xs ≡ get_or values 5 0)
    (words : length ws ≡ cond (words_in values) (get_or values 5 0) 0) (clear : ys ≡ zeros (get_or values 5 0))
    (spreads : xs' ≡ tab (length xs) (spread_at values 6 apart)) (spreads2 : ws' ≡ tab (length ws) (spread_at values 7 2))
    (form : f ≡ record { p = get_or values 0 0; emax = get_or values 1 0; sub = eqb (get_or values 2 0) 1 }) where
  xs_are : xs' ≡ (job_of values).xs
  unfolding job_of
  xs_are = spreads ∙ ap₂ {A = ℕ} {B = ℕ} (λ n a. tab n (spread_at values 6 a)) inputs wide

  ws_are : ws' ≡ (job_of values).ws
  unfolding job_of
  ws_are = spreads2 ∙ ap (λ (n : ℕ). tab n (spread_at values 7 2)) words

  ys_are : ys ≡ zeros (length (job_of values).xs)
  unfolding job_of
  ys_are = clear ∙ ap (λ (n : ℕ). zeros n) (sym (length-tab (get_or values 5 0) (spread_at values 6 (cond (words_in values) 2 1))))

  pub answer_by_places : page ≡ called f (get_or values 3 0) (get_or values 4 0) ws' xs' ys → page ≡ answer_of (job_of values)
  unfolding answer_of job_of
  answer_by_places is =
      is
      ∙ ap (λ (t : Format). called t (get_or values 3 0) (get_or values 4 0) ws' xs' ys) form
      ∙ ap (λ (t : List ℕ). called (format_of (job_of values)) (get_or values 3 0) (get_or values 4 0) t xs' ys) ws_are
      ∙ ap₂ {A = List ℕ} {B = List ℕ} (λ t u. called (format_of (job_of values)) (get_or values 3 0) (get_or values 4 0) (job_of values).ws t u) xs_are ys_are
