-- The rules of the lines: the first six are the same with words and without, every other line holds a word, and no key holds a
-- line feed. Assumes nothing.
use mathlib.Core.Bool.{Bool, true, false, cond, ◌&&◌}
use mathlib.Core.List.{List, [], ◌∷◌, ◌++◌}
use mathlib.Core.Path.{◌≡◌, refl, ap, ap₂, ◌∙◌, fun_ext}
use Prim.Native.Nat.{ℕ, zero, suc, ◌+◌, ◌%◌, ◌≤◌, ◌<◌}
use native.Mathlib.Omega.{arith}
use lib.Dec.{eqb}
use lib.ListN.{length, get_or, get_or-eq_default}
use borrow.Author.Tests.{eqb-true}
use Rattle.std.proofs.lemmas.List.{get_or_default}
use Rattle.laws.specs.Lists.{times}
use Rattle.laws.specs.Tables.{every}
use Rattle.laws.proofs.Tests.{and_left, and_right}
use Rattle.lines.specs.declared.Form.TheVariants.{Word}
use Rattle.lines.specs.Lines.{line_feed, line}
use Rattle.lines.specs.Reading.{read_line}
use Rattle.jobs.specs.Layout.{Rule, heads, input, random_word, rule_at, lines_from}
use Rattle.jobs.specs.Reading.{Lines, and_then, read_from}

-- ---- the first six lines

-- their rules ask for no words
rule_head : (words : Bool) (i : ℕ) → i < 6 → rule_at words i ≡ rule_at false i
unfolding rule_at
rule_head words i h = get_or_default heads i (cond (words && eqb (i % 2) 1) random_word input) input h

-- so they are written alike,
pub heads-written : (words : Bool) (i : ℕ) (vs : List ℕ) → i + length vs ≤ 6 → lines_from words i vs ≡ lines_from false i vs
unfolding lines_from
heads-written words i [] h = refl
heads-written words i (v ∷ vs) h =
    ap₂ {C = List ℕ} (λ (rule : Rule) (t : List ℕ). line rule.key rule.form v ++ t) (rule_head words i (omega arith))
    (heads-written words (suc i) vs (omega arith))

-- and read alike
pub heads_read : (words : Bool) (i m : ℕ) (s : List ℕ) → i + m ≤ 6 → read_from words i m s ≡ read_from false i m s
unfolding read_from
heads_read words i zero s h = refl
heads_read words i (suc m) s h =
    ap₂ (λ (rule : Rule) (on : List ℕ → Lines). and_then (read_line rule.key rule.form s) s on) (rule_head words i (omega arith))
    (fun_ext (λ t. heads_read words (suc i) m t (omega arith)))

-- ---- the other lines

-- they are an input's or a random word's
pub place_rule_lem : (words : Bool) (i : ℕ) → 6 ≤ i → rule_at words i ≡ cond (words && eqb (i % 2) 1) random_word input
unfolding rule_at
place_rule_lem words i h = get_or-eq_default heads (cond (words && eqb (i % 2) 1) random_word input) {n = i} h

-- so they hold words of 64 bits
pub form_behind : (words : Bool) (i : ℕ) → 6 ≤ i → (rule_at words i).form ≡ Word
form_behind words i h = ap (λ (rule : Rule). rule.form) (place_rule_lem words i h) ∙ go (words && eqb (i % 2) 1)
  where
    go : (b : Bool) → (cond b random_word input).form ≡ Word
    go true = refl
    go false = refl

-- ---- the keys

-- what passes at every entry of a list, and at what stands for a missing one, passes at each place
get_or-every : {A : Type 0} (test : A → Bool) (l : List A) (i : ℕ) (d : A) → every test l ≡ true → test d ≡ true → test (get_or l i d) ≡ true
get_or-every test [] i d e f = f
get_or-every test (x ∷ xs) zero d e f = and_left (test x) (every test xs) e
get_or-every test (x ∷ xs) (suc i) d e f = get_or-every test xs i d (and_right (test x) (every test xs) e) f

-- none holds a line feed
pub key_no_feed : (words : Bool) (i : ℕ) → times line_feed (rule_at words i).key ≡ 0
unfolding rule_at times
key_no_feed words i = eqb-true (times line_feed (rule_at words i).key) 0 (get_or-every clean heads i (cond (words && eqb (i % 2) 1) random_word input) refl (go (words && eqb (i % 2) 1)))
  where
    clean : Rule → Bool
    clean rule = eqb (times line_feed rule.key) 0

    go : (b : Bool) → clean (cond b random_word input) ≡ true
    go true = refl
    go false = refl
