-- A job is in range exactly where its values are of the forms of their lines. Assumes nothing.
use mathlib.Core.Bool.{Bool, true, false, cond}
use mathlib.Core.List.{List, [], ◌∷◌}
use mathlib.Core.Path.{◌≡◌, sym, ap, ◌∙◌, subst}
use Prim.Native.Nat.{ℕ, zero, suc, ◌+◌, ◌*◌, ◌^◌, ◌≤◌, ◌<◌, zero-le, suc-le-suc}
use native.Mathlib.Nat.{le_of_suc-le-suc, not-suc-le-zero, zero-add, add-zero}
use native.Mathlib.Omega.{arith}
use lib.ListN.{length, get_or}
use Rattle.laws.specs.Lists.{tab}
use Rattle.laws.proofs.Lists.{length-tab, get_or-tab}
use Rattle.lines.specs.declared.Form.{Form}
use Rattle.lines.specs.Lines.{fits}
use Rattle.lines.proofs.Forms.{number_fits, fits-number, word_fits, fits_word, fits-zero}
use Rattle.jobs.specs.Layout.{Job, InRange, has_words, rule_at, in_turn, values_of}
use Rattle.jobs.specs.Reading.{words_in, job_of}
use Rattle.jobs.proofs.Rows.{Fit}
use Rattle.jobs.proofs.Rules.{form_behind}

-- ---- from a job in range

-- each entry has 64 bits
abbrev Small : List ℕ → Type 0
Small l = (i : ℕ) → i < length l → get_or l i 0 < 2 ^ 64

-- two lists of such entries in turn
in_turn_small : (xs ws : List ℕ) → Small xs → Small ws → Small (in_turn xs ws)
unfolding in_turn
in_turn_small [] ws small also i h = absurd (not-suc-le-zero h)
in_turn_small (x ∷ xs) [] small also i h = absurd (not-suc-le-zero h)
in_turn_small (x ∷ xs) (w ∷ ws) small also zero h = small 0 (suc-le-suc zero-le)
in_turn_small (x ∷ xs) (w ∷ ws) small also (suc zero) h = also 0 (suc-le-suc zero-le)
in_turn_small (x ∷ xs) (w ∷ ws) small also (suc (suc i)) h =
    in_turn_small xs ws (λ k b. small (suc k) (suc-le-suc b)) (λ k b. also (suc k) (suc-le-suc b)) i (le_of_suc-le-suc (le_of_suc-le-suc h))

-- they fit the lines behind the six
small_fit : (words : Bool) (i : ℕ) (vs : List ℕ) → 6 ≤ i → Small vs → Fit words i vs
small_fit words i [] behind small = tt
small_fit words i (v ∷ vs) behind small = (
  ap (λ (form : Form). fits form v) (form_behind words i behind) ∙ word_fits v (small 0 (suc-le-suc zero-le)),
  small_fit words (suc i) vs (omega arith) (λ k b. small (suc k) (suc-le-suc b)),
)

-- the values of a job in range are of their forms, whether the rules are those with words or without
pub range_fits : (words : Bool) (j : Job) → InRange j → Fit words 0 (values_of j)
unfolding values_of rule_at
range_fits words j range = (
  number_fits 9999 j.p (omega arith) range.precision,
  (
    number_fits 9999 j.emax (omega arith) range.exponent,
    (
      number_fits 1 j.sub (omega arith) range.subnormals,
      (
        number_fits 9999 j.mode (omega arith) range.mode,
        (
          number_fits 9999 j.r (omega arith) range.bits,
          (
            number_fits 1024 (length j.xs) (omega arith) range.many,
            small_fit words 6 (cond (has_words j.mode) (in_turn j.xs j.ws) j.xs) (omega arith) (places (has_words j.mode)),
          ),
        ),
      ),
    ),
  ),
)
  where
    places : (b : Bool) → Small (cond b (in_turn j.xs j.ws) j.xs)
    places true = in_turn_small j.xs j.ws range.inputs range.words
    places false = range.inputs

-- ---- to a job in range

-- values that fit do so at each place, and so does the 0 that stands for one that is missing
pub fit_at : (words : Bool) (i : ℕ) (vs : List ℕ) (k : ℕ) → Fit words i vs → fits (rule_at words (i + k)).form (get_or vs k 0) ≡ true
fit_at words i [] k fit = fits-zero (rule_at words (i + k)).form
fit_at words i (v ∷ vs) zero fit = ap (λ (n : ℕ). fits (rule_at words n).form v) (add-zero i) ∙ fit.0
fit_at words i (v ∷ vs) (suc k) fit =
    ap (λ (n : ℕ). fits (rule_at words n).form (get_or vs k 0)) next ∙ fit_at words (suc i) vs k fit.1
  where
    next : i + suc k ≡ suc i + k
    next = omega arith

module _ (words : Bool) (vs : List ℕ) (fit : Fit words 0 vs) where
  -- behind the six it has 64 bits
  small_at : (k : ℕ) → 6 ≤ k → get_or vs k 0 < 2 ^ 64
  small_at k behind =
      fits_word (get_or vs k 0)
      (ap (λ (form : Form). fits form (get_or vs k 0)) (sym (form_behind words k behind))
      ∙ ap (λ (n : ℕ). fits (rule_at words n).form (get_or vs k 0)) (sym (zero-add k))
      ∙ fit_at words 0 vs k fit)

  -- the job with these values is in range, also where some are missing
  pub fits_range : InRange (job_of vs)
  unfolding job_of rule_at
  fits_range =
      record {
        precision = fits-number 9999 (get_or vs 0 0) (fit_at words 0 vs 0 fit);
        exponent = fits-number 9999 (get_or vs 1 0) (fit_at words 0 vs 1 fit);
        subnormals = fits-number 1 (get_or vs 2 0) (fit_at words 0 vs 2 fit);
        mode = fits-number 9999 (get_or vs 3 0) (fit_at words 0 vs 3 fit);
        bits = fits-number 9999 (get_or vs 4 0) (fit_at words 0 vs 4 fit);
        many = subst (λ (n : ℕ). n ≤ 1024) (sym (length-tab (get_or vs 5 0) input)) (fits-number 1024 (get_or vs 5 0) (fit_at words 0 vs 5 fit));
        inputs = small_tab (get_or vs 5 0) input (λ i. small_at (6 + i * cond (words_in vs) 2 1) (omega arith));
        words = small_tab (cond (words_in vs) (get_or vs 5 0) 0) word (λ i. small_at (7 + i * 2) (omega arith));
        a_word_each =
            length-tab (cond (words_in vs) (get_or vs 5 0) 0) word ∙ ap (λ (n : ℕ). cond (words_in vs) n 0) (sym (length-tab (get_or vs 5 0) input));
      }
    where
      input : ℕ → ℕ
      input i = get_or vs (6 + i * cond (words_in vs) 2 1) 0

      word : ℕ → ℕ
      word i = get_or vs (7 + i * 2) 0

      small_tab : (n : ℕ) (g : ℕ → ℕ) → ((i : ℕ) → g i < 2 ^ 64) → Small (tab n g)
      small_tab n g small i h = subst (λ (x : ℕ). x < 2 ^ 64) (sym (get_or-tab n g i 0 (subst (λ (m : ℕ). i < m) (length-tab n g) h))) (small i)
