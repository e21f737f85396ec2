-- What a call answers and leaves behind, as the code comes to it: where one of the six first lines is bad, where one of the others is,
-- and where all are good. Assumes nothing.
use mathlib.Core.Bool.{Bool, true, false}
use mathlib.Core.List.{List, ◌++◌, append-nil}
use mathlib.Core.Path.{◌≡◌, sym, ap, ap₂, ◌∙◌, subst}
use Prim.Native.Nat.{ℕ, suc, ◌+◌, ◌-◌, ◌≤◌, ◌<◌}
use native.Mathlib.Nat.{zero-add}
use native.Mathlib.Omega.{arith}
use lib.Dec.{eqb}
use lib.ListN.{length, get_or, drop, length-append, length-drop}
use lib.Seq.{sets}
use borrow.Author.Tests.{eqb-true, eqb-false, eq-eqb, ne_eqb}
use Rattle.std.specs.Prelude.{Ok, Err}
use Rattle.laws.specs.Lists.{over}
use Rattle.lines.proofs.Forms.{fits-number}
use Rattle.jobs.specs.declared.BadLine.{BadLine}
use Rattle.jobs.specs.Layout.{has_words, rule_at}
use Rattle.jobs.specs.Reading.{Lines, read_from, place_lines, heads_in, words_in, lines_in, places_in, values_in, used_in, bad_at, reading}
use Rattle.jobs.proofs.Stored.{stored_in_two, stored_over, stored_at}
use Rattle.jobs.proofs.Rows.{rows_fit, rows_used_within}
use Rattle.jobs.proofs.Whole.{none_asked, no_places}
use Rattle.jobs.proofs.Ranges.{fit_at}

-- ---- what is said of a text

module _ (text : List ℕ) where
  -- where fewer lines are read than are asked for, the next one is bad,
  bad_next : (b : BadLine) → length (values_in text) < 6 + lines_in (heads_in text).values → b.line ≡ suc (length (values_in text)) → Err b ≡ reading text
  unfolding reading
  bad_next b few named =
      let apart : length (values_in text) ≡ 6 + lines_in (heads_in text).values → ⊥ = λ e. omega (arith, e) in
      ap (λ (n : ℕ). bad_at n) named ∙ simp (ne_eqb (length (values_in text)) (6 + lines_in (heads_in text).values) apart)

  module _ (all : length (values_in text) ≡ 6 + lines_in (heads_in text).values) where
    -- where all are and something is left, the one behind the last,
    bad_last : (b : BadLine) → (used_in text ≡ length text → ⊥) → b.line ≡ suc (length (values_in text)) → Err b ≡ reading text
    unfolding reading
    bad_last b apart named =
        ap (λ (n : ℕ). bad_at n) named
        ∙ simp (eq-eqb (length (values_in text)) (6 + lines_in (heads_in text).values) all, ne_eqb (used_in text) (length text) apart)

    -- and where nothing is, none
    sound_end : used_in text ≡ length text → Ok tt ≡ reading text
    unfolding reading
    sound_end whole =
        simp (eq-eqb (length (values_in text)) (6 + lines_in (heads_in text).values) all, eq-eqb (used_in text) (length text) whole)

-- ---- the six first lines

module _ (text : List ℕ) where
  -- one of them is bad
  module _ (short : length (read_from false 0 6 text).values < 6) where
    few : length (heads_in text).values < 6
    unfolding heads_in
    few = short

    -- then nothing else is read,
    heads_alone : values_in text ≡ (heads_in text).values
    unfolding values_in
    heads_alone = ap (λ (l : List ℕ). (heads_in text).values ++ l) (no_places text few) ∙ append-nil (heads_in text).values

    -- the line behind those that are read is bad
    pub head_bad : (b : BadLine) → b.line ≡ suc (0 + length (read_from false 0 6 text).values) → Err b ≡ reading text
    unfolding heads_in
    head_bad b named =
        let many : length (values_in text) ≡ length (heads_in text).values = ap length heads_alone in
        bad_next text b (omega (arith, none_asked (heads_in text).values few)) (omega arith)

    -- and their values lie over what stood there
    pub heads_left : (before after : List ℕ) → length before ≡ 2054 → after ≡ sets before 0 (read_from false 0 6 text).values
        → after ≡ over (values_in text) before
    unfolding heads_in
    heads_left before after long stored =
        stored
        ∙ stored_over (read_from false 0 6 text).values before (omega arith)
        ∙ ap (λ (a : List ℕ). over a before) (sym heads_alone)

  -- all of them are good
  module _ (six : length (read_from false 0 6 text).values ≡ 6) (before heads : List ℕ) (long : length before ≡ 2054)
      (stored : heads ≡ sets before 0 (read_from false 0 6 text).values) where
    -- they stand in the first six places,
    head_at : (k : ℕ) → k < 6 → get_or heads k 0 ≡ get_or (read_from false 0 6 text).values k 0
    head_at k h =
        ap (λ (l : List ℕ). get_or l k 0) stored
        ∙ stored_at (read_from false 0 6 text).values before (omega (arith, six)) k (omega (arith, six))

    -- and no more places are asked for than there may be
    pub places_allowed : get_or heads 5 0 ≤ 1024
    unfolding rule_at
    places_allowed =
        let vs = (read_from false 0 6 text).values in
        subst (λ (n : ℕ). n ≤ 1024) (sym (head_at 5 (omega arith))) (fits-number 1024 (get_or vs 5 0) (fit_at false 0 vs 5 (rows_fit false 0 6 text)))

    -- so the words and the places are those that they ask for
    module _ (words : Bool) (asked : words ≡ has_words (get_or heads 3 0)) (count : ℕ) (needed : count ≡ place_lines words (get_or heads 5 0))
        (rest : List ℕ) (reached : rest ≡ drop (read_from false 0 6 text).used text) where
      -- whether there are words,
      words_wanted : words ≡ words_in (heads_in text).values
      unfolding heads_in
      words_wanted = asked ∙ ap has_words (head_at 3 (omega arith))

      -- how many lines there are,
      lines_wanted : count ≡ lines_in (heads_in text).values
      unfolding heads_in lines_in
      lines_wanted = needed ∙ ap₂ place_lines words_wanted (head_at 5 (omega arith))

      -- and what is read of them
      abbrev pub behind : Lines
      behind = read_from words 6 (6 + count - 6) rest

      places_read : behind ≡ places_in text
      unfolding heads_in places_in
      places_read =
          let times : 6 + count - 6 ≡ count = omega arith in
          rw (times, reached, lines_wanted, words_wanted)

      -- so many lines are read in all
      all_lines : length (values_in text) ≡ 6 + length behind.values
      unfolding heads_in values_in
      all_lines =
          length-append (heads_in text).values (places_in text).values
          ∙ ap₂ (λ m n. m + n) six (ap (λ (l : Lines). length l.values) (sym places_read))

      -- one of the places' lines is bad,
      pub place_bad : length behind.values < 6 + count - 6 → (b : BadLine) → b.line ≡ suc (6 + length behind.values) → Err b ≡ reading text
      place_bad short b named = bad_next text b (omega (arith, all_lines, lines_wanted)) (omega (arith, all_lines))

      -- or all lines are good:
      module _ (full : length behind.values ≡ 6 + count - 6) (left : List ℕ) (is : left ≡ drop behind.used rest) where
        every_line : length (values_in text) ≡ 6 + lines_in (heads_in text).values
        every_line = omega (arith, all_lines, lines_wanted)

        -- as many bytes are left as are not read
        bytes_left : length text ≡ used_in text + length left
        unfolding used_in heads_in
        bytes_left =
            omega (
              arith,
              ap length is,
              length-drop behind.used rest,
              ap length reached,
              length-drop (read_from false 0 6 text).used text,
              rows_used_within false 0 6 text,
              rows_used_within words 6 (6 + count - 6) rest,
              ap (λ (l : Lines). l.used) places_read,
            )

        module _ (none : Bool) (tested : none ≡ eqb (length left) 0) where
          -- where none is, the text is sound,
          pub all_sound : none ≡ true → Ok tt ≡ reading text
          all_sound ended = sound_end text every_line (omega (arith, bytes_left, eqb-true (length left) 0 (sym tested ∙ ended)))

          -- and else the line behind the last is bad
          pub surplus_bad : none ≡ false → (b : BadLine) → b.line ≡ suc (6 + count) → Err b ≡ reading text
          surplus_bad more b named =
              bad_last text every_line b (λ e. eqb-false (length left) 0 (sym tested ∙ more) (omega (arith, bytes_left, e)))
              (omega (arith, all_lines))

      -- what is stored
      pub all_written : length behind.values ≤ 6 + count - 6 → count ≤ 2048 → (after : List ℕ) → after ≡ sets heads 6 behind.values
          → after ≡ over (values_in text) before
      unfolding heads_in values_in
      all_written within few after then =
          then
          ∙ ap (λ (l : Lines). sets heads 6 l.values) places_read
          ∙ ap (λ (l : List ℕ). sets l 6 (places_in text).values) stored
          ∙ ap (λ (n : ℕ). sets (sets before 0 (heads_in text).values) n (places_in text).values) (sym (zero-add _ ∙ six))
          ∙ stored_in_two (heads_in text).values (places_in text).values before 0
          ∙ stored_over (values_in text) before (omega (arith, all_lines))
