-- Each line ends in the only line feed that it has: so lines are counted by theirs. Assumes nothing.
use mathlib.Core.List.{List, [], ◌∷◌, ◌++◌, append_assoc}
use mathlib.Core.Bool.{Bool}
use mathlib.Core.Path.{◌≡◌, refl, sym, ap, ◌∙◌}
use Prim.Native.Nat.{ℕ, zero, suc, ◌+◌, ◌≤◌}
use native.Mathlib.Nat.{le_of_suc-le-suc, not-suc-le-zero, zero-add}
use native.Mathlib.Omega.{arith}
use lib.ListN.{length, take}
use Rattle.laws.specs.Lists.{times}
use Rattle.lines.specs.Numerals.{digits}
use Rattle.lines.specs.Lines.{line_feed, base, width}
use Rattle.laws.proofs.Sums.{times-append}
use Rattle.lines.proofs.Forms.{base_some, base_small}
use Rattle.lines.proofs.Feeds.{digits_no_feed}
use Rattle.lines.proofs.Facts.{line_parts}
use Rattle.jobs.specs.Layout.{rule_at, lines_from}
use Rattle.jobs.specs.BadLines.{first_lines}
use Rattle.jobs.proofs.Rows.{line_of}
use Rattle.jobs.proofs.Rules.{key_no_feed}
use Rattle.jobs.proofs.FirstLines.{times_cons, first_over}

-- what stands before a line's line feed
abbrev body : Bool → ℕ → ℕ → List ℕ
body words i v = (rule_at words i).key ++ digits (base (rule_at words i).form) (width (rule_at words i).form v) v

-- a line is that, and then its line feed
line_ends : (words : Bool) (i v : ℕ) (t : List ℕ) → line_of words i v ++ t ≡ body words i v ++ (line_feed ∷ t)
line_ends words i v t =
    let rule = rule_at words i in
    line_parts rule.key rule.form v t ∙ sym (append_assoc rule.key (digits (base rule.form) (width rule.form v) v) (line_feed ∷ t))

-- no other line feed stands in it
body_no_feed : (words : Bool) (i v : ℕ) → times line_feed (body words i v) ≡ 0
body_no_feed words i v =
    omega (
      arith,
      times-append line_feed (rule_at words i).key (digits (base (rule_at words i).form) (width (rule_at words i).form v) v),
      key_no_feed words i,
      digits_no_feed (base (rule_at words i).form) (width (rule_at words i).form v) v (base_some (rule_at words i).form) (base_small (rule_at words i).form),
    )

-- so a line is one of the first lines,
first_line : (words : Bool) (i k v : ℕ) (t : List ℕ) → first_lines (suc k) (line_of words i v ++ t) ≡ line_of words i v ++ first_lines k t
first_line words i k v t =
    ap (λ (l : List ℕ). first_lines (suc k) l) (line_ends words i v t)
    ∙ first_over k (body words i v) t (body_no_feed words i v)
    ∙ sym (line_ends words i v (first_lines k t))

-- and has one line feed
line_feed_lem : (words : Bool) (i v : ℕ) (t : List ℕ) → times line_feed (line_of words i v ++ t) ≡ suc (times line_feed t)
line_feed_lem words i v t =
    omega (
      arith,
      ap (λ (l : List ℕ). times line_feed l) (line_ends words i v t),
      times-append line_feed (body words i v) (line_feed ∷ t),
      body_no_feed words i v,
      times_cons line_feed t,
    )

-- the first lines of many are those of their first values,
pub first_rows : (words : Bool) (i k : ℕ) (vs t : List ℕ) → k ≤ length vs → first_lines k (lines_from words i vs ++ t) ≡ lines_from words i (take k vs)
unfolding lines_from first_lines
first_rows words i zero vs t h = refl
first_rows words i (suc k) [] t h = absurd (not-suc-le-zero h)
first_rows words i (suc k) (v ∷ vs) t h =
    ap (λ (l : List ℕ). first_lines (suc k) l) (append_assoc (line_of words i v) (lines_from words (suc i) vs) t)
    ∙ first_line words i k v (lines_from words (suc i) vs ++ t)
    ∙ ap (λ (l : List ℕ). line_of words i v ++ l) (first_rows words (suc i) k vs t (le_of_suc-le-suc h))

-- and they have as many line feeds as values
pub row_feeds : (words : Bool) (i : ℕ) (vs t : List ℕ) → times line_feed (lines_from words i vs ++ t) ≡ length vs + times line_feed t
unfolding lines_from
row_feeds words i [] t = sym (zero-add (times line_feed t))
row_feeds words i (v ∷ vs) t =
    ap (λ (l : List ℕ). times line_feed l) (append_assoc (line_of words i v) (lines_from words (suc i) vs) t)
    ∙ line_feed_lem words i v (lines_from words (suc i) vs ++ t)
    ∙ ap suc (row_feeds words (suc i) vs t)
    ∙ omega arith
