-- A job's values and the job with these values: each gives the other back. Assumes nothing.
use mathlib.Core.Bool.{Bool, true, false, cond}
use mathlib.Core.List.{List, [], ◌∷◌}
use mathlib.Core.Path.{◌≡◌, refl, sym, ap, ap₂, ◌∙◌}
use Prim.Native.Nat.{ℕ, suc, ◌+◌, ◌*◌, ◌≤◌}
use native.Mathlib.Nat.{suc-ne-zero, mul-one}
use native.Mathlib.Omega.{arith}
use lib.ListN.{length, get_or, take}
use lib.Seq.{get_or-drop}
use Rattle.laws.specs.Lists.{tab}
use Rattle.laws.proofs.Lists.{length-tab, tab_alike}
use Rattle.jobs.specs.Layout.{Job, InRange, has_words, in_turn, values_of}
use Rattle.jobs.specs.Reading.{place_lines, words_in, lines_in, job_of}
use Rattle.jobs.proofs.Turns.{length-in_turn, in_turn_first, in_turn_second, in_turn-tab, tab_entries, tab-begins}

-- a word stands behind its input
word-place : (i : ℕ) → 7 + i * 2 ≡ 6 + suc (i * 2)
word-place i = omega arith

-- ---- from a job to its values and back

-- the values of the places: each input, and with words its word behind it
abbrev places : Bool → List ℕ → List ℕ → List ℕ
places words xs ws = cond words (in_turn xs ws) xs

module _ (words : Bool) (xs ws : List ℕ) (each : length ws ≡ cond words (length xs) 0) where
  -- how many there are
  pub length_places : length (places words xs ws) ≡ length xs * cond words 2 1
  length_places = go words each
    where
      go : (b : Bool) → length ws ≡ cond b (length xs) 0 → length (places b xs ws) ≡ length xs * cond b 2 1
      go true e = length-in_turn xs ws e
      go false e = sym (mul-one (length xs))

  -- where the inputs stand
  places_inputs : (i : ℕ) → get_or (places words xs ws) (i * cond words 2 1) 0 ≡ get_or xs i 0
  places_inputs i = go words each
    where
      go : (b : Bool) → length ws ≡ cond b (length xs) 0 → get_or (places b xs ws) (i * cond b 2 1) 0 ≡ get_or xs i 0
      go true e = in_turn_first xs ws i e
      go false e = ap (λ (n : ℕ). get_or xs n 0) (mul-one i)

  -- where the words stand
  places_words : tab (cond words (length xs) 0) (λ (i : ℕ). get_or (places words xs ws) (suc (i * 2)) 0) ≡ ws
  places_words = go words each
    where
      empty : (l : List ℕ) → length l ≡ 0 → [] ≡ l
      empty [] e = refl
      empty (x ∷ l) e = absurd (suc-ne-zero (length l) e)

      go : (b : Bool) → length ws ≡ cond b (length xs) 0 → tab (cond b (length xs) 0) (λ (i : ℕ). get_or (places b xs ws) (suc (i * 2)) 0) ≡ ws
      go true e =
          tab_alike (length xs) (λ (i : ℕ). get_or (in_turn xs ws) (suc (i * 2)) 0) (λ (i : ℕ). get_or ws i 0) (λ i below. in_turn_second xs ws i e)
          ∙ ap (λ (n : ℕ). tab n (λ (i : ℕ). get_or ws i 0)) (sym e)
          ∙ tab_entries ws
      go false e = empty ws e

-- a job has as many values as they ask for
pub length_values : (j : Job) → InRange j → length (values_of j) ≡ 6 + lines_in (values_of j)
unfolding values_of lines_in place_lines
length_values j range =
    ap (λ (n : ℕ). suc (suc (suc (suc (suc (suc n)))))) (length_places (has_words j.mode) j.xs j.ws range.a_word_each) ∙ omega arith

-- and is the job with these values
pub job_of_values : (j : Job) → InRange j → job_of (values_of j) ≡ j
unfolding job_of values_of
job_of_values j range =
    λ k. record { p = j.p; emax = j.emax; sub = j.sub; mode = j.mode; r = j.r; xs = inputs k; ws = words k }
  where
    has : Bool
    has = has_words j.mode

    behind : (i : ℕ) → get_or (values_of j) (6 + i) 0 ≡ get_or (places has j.xs j.ws) i 0
    behind i = sym (get_or-drop 6 (values_of j) i 0)

    inputs : tab (length j.xs) (λ (i : ℕ). get_or (values_of j) (6 + i * cond has 2 1) 0) ≡ j.xs
    inputs =
        tab_alike (length j.xs) (λ (i : ℕ). get_or (values_of j) (6 + i * cond has 2 1) 0) (λ (i : ℕ). get_or j.xs i 0)
        (λ i below. behind (i * cond has 2 1) ∙ places_inputs has j.xs j.ws range.a_word_each i)
        ∙ tab_entries j.xs

    words : tab (cond has (length j.xs) 0) (λ (i : ℕ). get_or (values_of j) (7 + i * 2) 0) ≡ j.ws
    words =
        tab_alike (cond has (length j.xs) 0) (λ (i : ℕ). get_or (values_of j) (7 + i * 2) 0)
        (λ (i : ℕ). get_or (places has j.xs j.ws) (suc (i * 2)) 0)
        (λ i below. ap (λ (n : ℕ). get_or (values_of j) n 0) (word-place i) ∙ behind (suc (i * 2)))
        ∙ places_words has j.xs j.ws range.a_word_each

-- ---- from values to a job and back

-- the places of the job with these values
places_of : (words : Bool) (n : ℕ) (g : ℕ → ℕ)
    → places words (tab n (λ (i : ℕ). g (6 + i * cond words 2 1))) (tab (cond words n 0) (λ (i : ℕ). g (7 + i * 2))) ≡ tab (n * cond words 2 1) (λ (i : ℕ). g (6 + i))
places_of true n g =
    ap (λ (ws : List ℕ). in_turn (tab n (λ (i : ℕ). g (6 + i * 2))) ws)
    (tab_alike n (λ (i : ℕ). g (7 + i * 2)) (λ (i : ℕ). g (6 + suc (i * 2))) (λ i below. ap g (word-place i)))
    ∙ in_turn-tab n (λ (i : ℕ). g (6 + i))
places_of false n g =
    tab_alike n (λ (i : ℕ). g (6 + i * 1)) (λ (i : ℕ). g (6 + i)) (λ i below. ap (λ (k : ℕ). g (6 + k)) (mul-one i))
    ∙ ap (λ (k : ℕ). tab k (λ (i : ℕ). g (6 + i))) (sym (mul-one n))

-- the first six entries of a list that a rule makes
six_first : (n : ℕ) (g : ℕ → ℕ) → tab (6 + n) g ≡ g 0 ∷ g 1 ∷ g 2 ∷ g 3 ∷ g 4 ∷ g 5 ∷ tab n (λ (i : ℕ). g (6 + i))
six_first n g =
    ap (λ (k : ℕ). tab k g) (six n)
    ∙ ap (λ (l : List ℕ). g 0 ∷ g 1 ∷ g 2 ∷ g 3 ∷ g 4 ∷ g 5 ∷ l)
    (tab_alike n (λ (i : ℕ). g (suc (suc (suc (suc (suc (suc i))))))) (λ (i : ℕ). g (6 + i)) (λ i below. ap g (sym (six i))))
  where
    six : (k : ℕ) → 6 + k ≡ suc (suc (suc (suc (suc (suc k)))))
    six k = omega arith

-- the values of the job with these values are the same, and 0 where one is missing
values_of_job : (vs : List ℕ) → values_of (job_of vs) ≡ tab (6 + lines_in vs) (λ (i : ℕ). get_or vs i 0)
unfolding values_of job_of lines_in place_lines
values_of_job vs =
    ap₂ {C = List ℕ} (λ (n : ℕ) (l : List ℕ). g 0 ∷ g 1 ∷ g 2 ∷ g 3 ∷ g 4 ∷ n ∷ l)
    (length-tab (g 5) (λ (i : ℕ). g (6 + i * cond (words_in vs) 2 1)))
    (places_of (words_in vs) (g 5) g)
    ∙ sym (six_first (g 5 * cond (words_in vs) 2 1) g)
  where
    g : ℕ → ℕ
    g i = get_or vs i 0

-- so a job's values begin with those that it was made from,
pub job_begins : (vs : List ℕ) → length vs ≤ 6 + lines_in vs → take (length vs) (values_of (job_of vs)) ≡ vs
job_begins vs within = ap (λ (l : List ℕ). take (length vs) l) (values_of_job vs) ∙ tab-begins vs (6 + lines_in vs) within

-- and are those where none is missing
pub values_again : (vs : List ℕ) → length vs ≡ 6 + lines_in vs → values_of (job_of vs) ≡ vs
values_again vs all = values_of_job vs ∙ ap (λ (n : ℕ). tab n (λ (i : ℕ). get_or vs i 0)) (sym all) ∙ tab_entries vs
