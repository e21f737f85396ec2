-- How long a job's text can be, and how many lines are read of any text. Assumes nothing.
use mathlib.Core.Bool.{Bool, true, false, cond, ◌&&◌, ◌||◌, false≢true}
use mathlib.Core.List.{List, [], ◌∷◌}
use mathlib.Core.Path.{◌≡◌, refl, ap, ◌∙◌}
use Prim.Native.Nat.{ℕ, suc, ◌+◌, ◌*◌, ◌%◌, ◌≤◌}
use native.Mathlib.Omega.{arith}
use lib.Dec.{eqb}
use lib.ListN.{length, get_or, length-append}
use borrow.Author.Tests.{eqb-true}
use Rattle.lines.specs.Numerals.{decimals}
use Rattle.lines.specs.declared.Form.TheVariants.{Word}
use Rattle.lines.specs.Lines.{line}
use Rattle.lines.proofs.Forms.{decimals-one, decimals-most, fits-number}
use Rattle.lines.proofs.Lengths.{length-line}
use Rattle.jobs.specs.Layout.{Rule, has_words, input, random_word, rule_at, lines_from, in_turn, values_of, text_of}
use Rattle.jobs.specs.Reading.{place_lines, words_in, lines_in, values_in}
use Rattle.jobs.specs.Facts.{longest_text, JobsAreShort, LinesAreFew}
use Rattle.jobs.proofs.Rules.{place_rule_lem}
use Rattle.jobs.proofs.Values.{length_places}
use Rattle.jobs.proofs.Ranges.{fit_at}
use Rattle.jobs.proofs.Whole.{values_within, values_fit}
use Rattle.jobs.proofs.Readings.{named}

-- ---- how long a job's text is

-- a line of a place takes 19 bytes
length-place : (words : Bool) (i v : ℕ) → 6 ≤ i → length (line (rule_at words i).key (rule_at words i).form v) ≡ 19
length-place words i v h =
    ap (λ (r : Rule). length (line r.key r.form v)) (place_rule_lem words i h) ∙ go (words && eqb (i % 2) 1)
  where
    go : (b : Bool) → length (line (cond b random_word input).key (cond b random_word input).form v) ≡ 19
    go true = length-line random_word.key Word v
    go false = length-line input.key Word v

-- and so does each of those that follow
length_rows : (words : Bool) (i : ℕ) (vs : List ℕ) → 6 ≤ i → length (lines_from words i vs) ≡ length vs * 19
unfolding lines_from
length_rows words i [] h = refl
length_rows words i (v ∷ vs) h =
    length-append (line (rule_at words i).key (rule_at words i).form v) (lines_from words (suc i) vs)
    ∙ omega (arith, length-place words i v h, length_rows words (suc i) vs (omega arith))

-- the six lines take 43 bytes at most beside the mode's digits, and those behind them 19 each
length_text : (words : Bool) (p emax sub mode r n : ℕ) (vs : List ℕ) → sub ≤ 1
    → length (lines_from words 0 (p ∷ emax ∷ sub ∷ mode ∷ r ∷ n ∷ vs)) ≤ 43 + decimals mode + length vs * 19
unfolding lines_from rule_at
length_text words p emax sub mode r n vs h =
    simp (length-append, length-line)
    (omega (
      arith,
      length_rows words 6 vs (omega arith),
      decimals-most p,
      decimals-most emax,
      decimals-one sub (omega arith),
      decimals-most r,
      decimals-most n,
    ))

-- a mode that has words has one digit
words_mode_short : (mode : ℕ) → has_words mode ≡ true → decimals mode ≡ 1
unfolding has_words
words_mode_short mode has = go (eqb mode 7) refl (eqb mode 8) refl has
  where
    go : (seven : Bool) → eqb mode 7 ≡ seven → (eight : Bool) → eqb mode 8 ≡ eight → (seven || eight) ≡ true → decimals mode ≡ 1
    go true e eight f has = decimals-one mode (omega (arith, eqb-true mode 7 e))
    go false e true f has = decimals-one mode (omega (arith, eqb-true mode 8 f))
    go false e false f has = absurd (false≢true has)

-- no job's text is longer than is said
pub jobs_are_short : JobsAreShort
unfolding text_of values_of
jobs_are_short j fit =
    go (has_words j.mode) (words_mode_short j.mode)
    (length_text (has_words j.mode) j.p j.emax j.sub j.mode j.r (length j.xs) (places (has_words j.mode)) fit.subnormals)
    (length_places (has_words j.mode) j.xs j.ws fit.a_word_each)
  where
    places : Bool → List ℕ
    places words = cond words (in_turn j.xs j.ws) j.xs

    text : Bool → ℕ
    text words = length (lines_from words 0 (j.p ∷ j.emax ∷ j.sub ∷ j.mode ∷ j.r ∷ length j.xs ∷ places words))

    go : (words : Bool) → (words ≡ true → decimals j.mode ≡ 1) → text words ≤ 43 + decimals j.mode + length (places words) * 19
        → length (places words) ≡ length j.xs * cond words 2 1 → text words ≤ longest_text
    go true short long many = omega (arith, short refl, long, many, fit.many)
    go false short long many = omega (arith, decimals-most j.mode, long, many, fit.many)

-- ---- how many lines are read

-- the n that is read is at most 1024, and 0 where it is missing
pub count_in_range : (s : List ℕ) → get_or (values_in s) 5 0 ≤ 1024
unfolding rule_at
count_in_range s = fits-number 1024 (get_or (values_in s) 5 0) (fit_at (words_in (values_in s)) 0 (values_in s) 5 (values_fit s))

-- so no more lines are asked for than two for each place,
lines_asked : (s : List ℕ) → lines_in (values_in s) ≤ 2048
unfolding lines_in place_lines
lines_asked s = go (words_in (values_in s)) (get_or (values_in s) 5 0) (count_in_range s)
  where
    go : (words : Bool) (n : ℕ) → n ≤ 1024 → n * cond words 2 1 ≤ 2048
    go true n h = omega arith
    go false n h = omega arith

-- no more values are read than a job can have,
pub values_are_few : (s : List ℕ) → length (values_in s) ≤ 2054
values_are_few s = omega (arith, values_within s, lines_asked s)

-- and no line is named but one of theirs or the one behind them
pub lines_are_few : LinesAreFew
lines_are_few s k e = omega (arith, named s k e, values_are_few s)
