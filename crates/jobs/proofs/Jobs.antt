-- A text that begins with a job's lines is read so far, and the text of a whole job is read whole. Assumes nothing.
use mathlib.Core.Bool.{Bool}
use mathlib.Core.List.{List, [], ◌++◌, append-nil, append_assoc}
use mathlib.Core.Logic.{◌⊎◌, inl, inr}
use mathlib.Core.Path.{◌≡◌, refl, sym, ap, ap₂, ◌∙◌, subst}
use Prim.Native.Nat.{ℕ, ◌+◌, ◌≤◌, ◌<◌}
use native.Mathlib.Nat.{le_of_lt, le_refl}
use native.Mathlib.Omega.{arith}
use lib.ListN.{length, get_or, take, drop}
use lib.Seq.{length-take-le, take_all, take-length, take-take, get_or-take, drop-length}
use Rattle.laws.proofs.Orders.{below_or_not}
use Rattle.std.specs.Prelude.{Ok}
use Rattle.jobs.specs.Layout.{Job, InRange, has_words, lines_from, values_of, text_of}
use Rattle.jobs.specs.Reading.{place_lines, words_in, lines_in, values_in, reading, job_of}
use Rattle.jobs.proofs.Rows.{Fit, rows_split, fit_take}
use Rattle.jobs.proofs.Rules.{heads-written}
use Rattle.jobs.proofs.Whole.{values_within, values_begin, values_used, values_written, values_fit}
use Rattle.jobs.proofs.Readings.{sound_of, sound_all, sound_whole}
use Rattle.jobs.proofs.Values.{length_values, job_of_values, values_again}
use Rattle.jobs.proofs.Ranges.{range_fits, fits_range}

-- ---- texts that begin with lines

-- values that begin with the same six ask for words alike,
words_alike : (us vs : List ℕ) → take 6 us ≡ take 6 vs → words_in us ≡ words_in vs
words_alike us vs e =
    ap has_words (sym (get_or-take 6 us 3 0 (omega arith)) ∙ ap (λ (l : List ℕ). get_or l 3 0) e ∙ get_or-take 6 vs 3 0 (omega arith))

-- and for as many lines
lines_alike : (us vs : List ℕ) → take 6 us ≡ take 6 vs → lines_in us ≡ lines_in vs
unfolding lines_in
lines_alike us vs e =
    ap₂ place_lines (words_alike us vs e)
    (sym (get_or-take 6 us 5 0 (omega arith)) ∙ ap (λ (l : List ℕ). get_or l 5 0) e ∙ get_or-take 6 vs 5 0 (omega arith))

module _ (vs : List ℕ) (fit : (words : Bool) → Fit words 0 vs) (s : List ℕ) where
  -- a text whose rules are those of its own values, and that begins with some of these lines, has their values first
  begins_read : (k : ℕ) (rest : List ℕ) → k ≤ length vs → k ≤ 6 + lines_in (values_in s)
      → s ≡ lines_from (words_in (values_in s)) 0 (take k vs) ++ rest → take k (values_in s) ≡ take k vs
  begins_read k rest within room begins =
      ap (λ (n : ℕ). take n (values_in s)) (sym (length-take-le k vs within))
      ∙ values_begin s (take k vs) rest begins (fit_take (words_in (values_in s)) 0 k vs (fit (words_in (values_in s))))
      (subst (λ (n : ℕ). n ≤ 6 + lines_in (values_in s)) (sym (length-take-le k vs within)) room)

  -- of the six lines the rules are the same
  few_read : (k : ℕ) (rest : List ℕ) → k ≤ length vs → k ≤ 6 → s ≡ lines_from (words_in vs) 0 (take k vs) ++ rest → take k (values_in s) ≡ take k vs
  few_read k rest within few begins =
      begins_read k rest within (omega arith)
      (begins
      ∙ ap (λ (l : List ℕ). l ++ rest)
      (heads-written (words_in vs) 0 (take k vs) short ∙ sym (heads-written (words_in (values_in s)) 0 (take k vs) short)))
    where
      short : 0 + length (take k vs) ≤ 6
      short = omega (arith, length-take-le k vs within)

  -- and they say the rules of the others
  pub lines_read : (k : ℕ) (rest : List ℕ) → k ≤ length vs → length vs ≤ 6 + lines_in vs → s ≡ lines_from (words_in vs) 0 (take k vs) ++ rest
      → take k (values_in s) ≡ take k vs
  lines_read k rest within room begins = go (below_or_not k 6)
    where
      words : Bool
      words = words_in vs

      six : 6 ≤ k → take 6 (values_in s) ≡ take 6 vs
      six many =
          few_read 6 (lines_from words 6 (drop 6 (take k vs)) ++ rest) (omega arith) (omega arith)
          (begins
          ∙ ap (λ (l : List ℕ). l ++ rest) (rows_split words 0 6 (take k vs))
          ∙ append_assoc (lines_from words 0 (take 6 (take k vs))) (lines_from words 6 (drop 6 (take k vs))) rest
          ∙ ap (λ (l : List ℕ). lines_from words 0 l ++ (lines_from words 6 (drop 6 (take k vs)) ++ rest)) (take-take 6 k vs many))

      go : (k < 6) ⊎ (6 ≤ k) → take k (values_in s) ≡ take k vs
      go (inl few) = few_read k rest within (le_of_lt few) begins
      go (inr many) =
          begins_read k rest within (omega (arith, lines_alike (values_in s) vs (six many)))
          (begins ∙ ap (λ (b : Bool). lines_from b 0 (take k vs) ++ rest) (sym (words_alike (values_in s) vs (six many))))

  -- a text of all the lines that its values ask for has these values
  all_read : length vs ≡ 6 + lines_in vs → s ≡ lines_from (words_in vs) 0 vs → values_in s ≡ vs
  all_read all text = sym (take_all (length vs) (values_in s) within) ∙ first ∙ take-length vs
    where
      first : take (length vs) (values_in s) ≡ take (length vs) vs
      first =
          lines_read (length vs) [] (le_refl (length vs)) (omega arith)
          (text
          ∙ ap (λ (l : List ℕ). lines_from (words_in vs) 0 l) (sym (take-length vs))
          ∙ sym (append-nil (lines_from (words_in vs) 0 (take (length vs) vs))))

      many : 6 ≤ length vs
      many = omega arith

      six : take 6 (values_in s) ≡ take 6 vs
      six = sym (take-take 6 (length vs) (values_in s) many) ∙ ap (λ (l : List ℕ). take 6 l) first ∙ take-take 6 (length vs) vs many

      within : length (values_in s) ≤ length vs
      within = omega (arith, values_within s, lines_alike (values_in s) vs six)

-- ---- jobs

-- a job's text has the job's values,
text_values : (j : Job) → InRange j → values_in (text_of j) ≡ values_of j
unfolding text_of values_of
text_values j range = all_read (values_of j) (λ words. range_fits words j range) (text_of j) (length_values j range) refl

-- and is read as this job
pub read_as : (j : Job) → InRange j → job_of (values_in (text_of j)) ≡ j
read_as j range = ap job_of (text_values j range) ∙ job_of_values j range

-- it is sound
pub read_sound : (j : Job) → InRange j → reading (text_of j) ≡ Ok tt
unfolding text_of values_of
read_sound j range =
    sound_of (text_of j)
    (ap length values ∙ length_values j range ∙ ap (λ (vs : List ℕ). 6 + lines_in vs) (sym values))
    (values_used (text_of j) ∙ ap (λ (vs : List ℕ). length (lines_from (words_in vs) 0 vs)) values)
  where
    values : values_in (text_of j) ≡ values_of j
    values = text_values j range

-- a text that is sound is the text of the job with its values,
pub sound_text : (s : List ℕ) → reading s ≡ Ok tt → s ≡ text_of (job_of (values_in s))
unfolding text_of job_of
sound_text s sound =
    values_written s
    ∙ ap (λ (l : List ℕ). lines_from (words_in (values_in s)) 0 (values_in s) ++ l) (ap (λ (n : ℕ). drop n s) (sound_whole s sound) ∙ drop-length s)
    ∙ append-nil (lines_from (words_in (values_in s)) 0 (values_in s))
    ∙ ap (λ (l : List ℕ). lines_from (words_in (values_in s)) 0 l) (sym (values_again (values_in s) (sound_all s sound)))

-- which is in range, as is that with the values of any text
pub read_range : (s : List ℕ) → InRange (job_of (values_in s))
read_range s = fits_range (words_in (values_in s)) (values_in s) (values_fit s)
