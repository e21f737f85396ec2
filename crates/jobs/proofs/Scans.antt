-- The loop over the lines: what is read from a line on is that line's value and what is read behind it. Assumes nothing.
use mathlib.Core.Bool.{Bool}
use mathlib.Core.List.{List, ◌∷◌}
use mathlib.Core.Path.{◌≡◌, sym, ap, ◌∙◌}
use Prim.Native.Nat.{ℕ, suc, ◌+◌, ◌-◌, ◌≤◌, ◌<◌}
use native.Mathlib.Numerals.{add-one}
use native.Mathlib.Omega.{arith}
use lib.ListN.{length, take, drop, set}
use lib.Seq.{sets, drop-drop}
use borrow.Author.Rules.{part_to_end}
use Rattle.std.specs.Prelude.{Option, Some, None}
use Rattle.lines.specs.declared.Found.{Found}
use Rattle.lines.proofs.Facts.{read_ends_within}
use Rattle.jobs.specs.Layout.{rule_at}
use Rattle.jobs.specs.Reading.{Lines, no_lines, and_then, line_at, read_from}

module _ (words : Bool) (last i : ℕ) (rest : List ℕ) where
  -- what is read from line i on, up to the last
  abbrev pub ahead : Lines
  ahead = read_from words i (last - i) rest

  -- behind the last line there is nothing
  pub ahead_none : last ≤ i → ahead ≡ no_lines
  unfolding read_from
  ahead_none reached =
      let none : last - i ≡ 0 = omega arith in
      ap (λ (m : ℕ). read_from words i m rest) none

  module _ (y : Option Found) (looked : y ≡ line_at words i rest) where
    -- a line that is found lies within the text
    pub found_within : (f : Found) → y ≡ Some f → f.used ≤ length rest
    found_within f found = read_ends_within (rule_at words i).key (rule_at words i).form rest f.value f.used (sym looked ∙ found)

    module _ (more : i < last) where
      -- before the last line there is one more, if it is as laid out
      ahead_line : ahead ≡ and_then y rest (read_from words (suc i) (last - suc i))
      unfolding read_from
      ahead_line =
          let some : last - i ≡ suc (last - suc i) = omega arith in
          ap (λ (m : ℕ). read_from words i m rest) some
          ∙ ap {B = Lines} (λ (f : Option Found). and_then f rest (read_from words (suc i) (last - suc i))) (sym looked)

      -- where it is not, there is nothing
      pub ahead_stopped : y ≡ None → ahead ≡ no_lines
      ahead_stopped missing =
          ahead_line ∙ ap {B = Lines} (λ (f : Option Found). and_then f rest (read_from words (suc i) (last - suc i))) missing

      module _ (f : Found) (found : y ≡ Some f) where
        -- the text behind it
        abbrev behind : List ℕ
        behind = take (length rest - f.used) (drop f.used rest)

        abbrev more_ahead : Lines
        more_ahead = read_from words (i + 1) (last - (i + 1)) behind

        -- where it is, there is its value and what is ahead behind it
        ahead_found : ahead ≡ record { values = f.value ∷ more_ahead.values; used = f.used + more_ahead.used }
        ahead_found =
            ahead_line
            ∙ ap {B = Lines} (λ (g : Option Found). and_then g rest (read_from words (suc i) (last - suc i))) found
            ∙ ap {B = Lines} (λ (l : Lines). record { values = f.value ∷ l.values; used = f.used + l.used }) same
          where
            same : read_from words (suc i) (last - suc i) (drop f.used rest) ≡ more_ahead
            same = rw (part_to_end, add-one)

        -- so a turn of the loop changes nothing of the line that is reached in the end,
        pub lines_turn : (n : ℕ) → n ≡ i + length ahead.values → n ≡ i + 1 + length more_ahead.values
        lines_turn n e = omega (arith, ap (λ (l : Lines). length l.values) ahead_found)

        -- nor of the text that is left,
        pub rest_turn : (t : List ℕ) → t ≡ drop ahead.used rest → t ≡ drop more_ahead.used behind
        rest_turn t e =
            e
            ∙ ap (λ (l : Lines). drop l.used rest) ahead_found
            ∙ sym (drop-drop more_ahead.used f.used rest)
            ∙ ap (λ (s : List ℕ). drop more_ahead.used s) (sym (part_to_end rest f.used))

        -- nor of what is stored by then
        pub values_turn : (all values : List ℕ) → all ≡ sets values i ahead.values → all ≡ sets (set values i f.value) (i + 1) more_ahead.values
        values_turn all values e = e ∙ ap (λ (l : Lines). sets values i l.values) ahead_found ∙ rw add-one

  -- with nothing ahead the loop is where it was to get: the line, the text that is left and what is stored
  module _ (none : ahead ≡ no_lines) where
    pub lines_end : (n : ℕ) → n ≡ i + length ahead.values → n ≡ i
    lines_end n e = omega (arith, ap (λ (l : Lines). length l.values) none)

    pub rest_end : (t : List ℕ) → t ≡ drop ahead.used rest → rest ≡ t
    rest_end t e = sym (e ∙ ap (λ (l : Lines). drop l.used rest) none)

    pub values_end : (all values : List ℕ) → all ≡ sets values i ahead.values → values ≡ all
    values_end all values e = sym (e ∙ ap (λ (l : Lines). sets values i l.values) none)
