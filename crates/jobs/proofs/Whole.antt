-- A whole text is read as one row of lines: six, and as many more as the values read ask for. Assumes nothing.
use mathlib.Core.Bool.{Bool, cond}
use mathlib.Core.List.{List, [], ◌++◌, append-nil}
use mathlib.Core.Logic.{◌⊎◌, inl, inr}
use mathlib.Core.Path.{◌≡◌, sym, ap, ap₂, ◌∙◌, subst}
use Prim.Native.Nat.{ℕ, ◌+◌, ◌*◌, ◌≤◌, ◌<◌}
use native.Mathlib.Nat.{zero-mul}
use native.Mathlib.Omega.{arith}
use lib.ListN.{length, get_or, take, drop, get_or-append, get_or-eq_default}
use Rattle.laws.proofs.Orders.{below_or_not}
use Rattle.jobs.specs.Layout.{has_words, lines_from}
use Rattle.jobs.specs.Reading.{Lines, read_from, place_lines, heads_in, words_in, lines_in, places_in, values_in, used_in}
use Rattle.jobs.proofs.Rows.{Fit, both, rows_within, rows_read, rows_fit, rows_used, rows_written, rows_more}
use Rattle.jobs.proofs.Rules.{heads_read}

-- where the line with n is missing, no lines are asked for behind the six
pub none_asked : (vs : List ℕ) → length vs < 6 → lines_in vs ≡ 0
unfolding lines_in place_lines
none_asked vs few =
    let missing : length vs ≤ 5 = omega arith in
    ap (λ (n : ℕ). n * cond (words_in vs) 2 1) (get_or-eq_default vs 0 {n = 5} missing) ∙ zero-mul (cond (words_in vs) 2 1)

module _ (s : List ℕ) where
  -- the six lines and those of the places are one row
  heads_and_places : read_from (words_in (heads_in s).values) 0 (6 + lines_in (heads_in s).values) s ≡ both (heads_in s) (places_in s)
  unfolding heads_in places_in
  heads_and_places =
      rows_more words 0 6 lines s (λ few. none_asked (heads_in s).values (subst (λ (l : Lines). length l.values < 6) same few))
      ∙ ap (λ (l : Lines). both l (read_from words 6 lines (drop l.used s))) same
    where
      words : Bool
      words = words_in (heads_in s).values

      lines : ℕ
      lines = lines_in (heads_in s).values

      same : read_from words 0 6 s ≡ heads_in s
      same = heads_read words 0 6 s (omega arith)

  -- where not all of the six are read, nothing else is
  pub no_places : length (heads_in s).values < 6 → (places_in s).values ≡ []
  unfolding places_in read_from
  no_places few =
      ap (λ (m : ℕ). (read_from (words_in (heads_in s).values) 6 m (drop (heads_in s).used s)).values) (none_asked (heads_in s).values few)

  -- the first six values are those of the six lines
  heads-kept : (i : ℕ) → i < 6 → get_or (values_in s) i 0 ≡ get_or (heads_in s).values i 0
  unfolding values_in
  heads-kept i h = go (below_or_not i (length (heads_in s).values))
    where
      go : (i < length (heads_in s).values) ⊎ (length (heads_in s).values ≤ i) → get_or ((heads_in s).values ++ (places_in s).values) i 0 ≡ get_or (heads_in s).values i 0
      go (inl there) = get_or-append (heads_in s).values (places_in s).values 0 i there
      go (inr missing) =
          ap (λ (l : List ℕ). get_or ((heads_in s).values ++ l) i 0) (no_places (omega arith))
          ∙ ap (λ (l : List ℕ). get_or l i 0) (append-nil (heads_in s).values)

  -- so all values ask for words where the six do,
  words_kept : words_in (values_in s) ≡ words_in (heads_in s).values
  words_kept = ap has_words (heads-kept 3 (omega arith))

  -- and for as many lines
  pub lines_kept : lines_in (values_in s) ≡ lines_in (heads_in s).values
  unfolding lines_in
  lines_kept = ap₂ place_lines words_kept (heads-kept 5 (omega arith))

  -- the whole text is the row of what its own values ask for,
  whole_row : read_from (words_in (values_in s)) 0 (6 + lines_in (values_in s)) s ≡ both (heads_in s) (places_in s)
  whole_row = ap₂ (λ (words : Bool) (n : ℕ). read_from words 0 (6 + n) s) words_kept lines_kept ∙ heads_and_places

  -- with its values
  whole_values : (read_from (words_in (values_in s)) 0 (6 + lines_in (values_in s)) s).values ≡ values_in s
  unfolding values_in
  whole_values = ap (λ (l : Lines). l.values) whole_row

  -- and its bytes
  whole_used : (read_from (words_in (values_in s)) 0 (6 + lines_in (values_in s)) s).used ≡ used_in s
  unfolding used_in
  whole_used = ap (λ (l : Lines). l.used) whole_row

  -- no more values are read than they ask for
  pub values_within : length (values_in s) ≤ 6 + lines_in (values_in s)
  values_within =
      subst (λ (vs : List ℕ). length vs ≤ 6 + lines_in (values_in s)) whole_values (rows_within (words_in (values_in s)) 0 (6 + lines_in (values_in s)) s)

-- a text that begins with lines has their values first, as far as these are asked for
pub values_begin : (s us rest : List ℕ) → s ≡ lines_from (words_in (values_in s)) 0 us ++ rest → Fit (words_in (values_in s)) 0 us
    → length us ≤ 6 + lines_in (values_in s) → take (length us) (values_in s) ≡ us
values_begin s us rest begins fit room =
    ap (λ (vs : List ℕ). take (length us) vs) (sym (whole_values s))
    ∙ ap (λ (t : List ℕ). take (length us) (read_from words 0 lines t).values) begins
    ∙ rows_read words 0 lines us rest fit room
  where
    words : Bool
    words = words_in (values_in s)

    lines : ℕ
    lines = 6 + lines_in (values_in s)

-- every value that is read is of its form
pub values_fit : (s : List ℕ) → Fit (words_in (values_in s)) 0 (values_in s)
values_fit s =
    subst (λ (vs : List ℕ). Fit (words_in (values_in s)) 0 vs) (whole_values s)
    (rows_fit (words_in (values_in s)) 0 (6 + lines_in (values_in s)) s)

-- the bytes that are counted are those of the values' lines,
pub values_used : (s : List ℕ) → used_in s ≡ length (lines_from (words_in (values_in s)) 0 (values_in s))
values_used s =
    sym (whole_used s)
    ∙ rows_used (words_in (values_in s)) 0 (6 + lines_in (values_in s)) s
    ∙ ap (λ (vs : List ℕ). length (lines_from (words_in (values_in s)) 0 vs)) (whole_values s)

-- with which the text begins
pub values_written : (s : List ℕ) → s ≡ lines_from (words_in (values_in s)) 0 (values_in s) ++ drop (used_in s) s
values_written s =
    rows_written (words_in (values_in s)) 0 (6 + lines_in (values_in s)) s
    ∙ ap₂ (λ (vs : List ℕ) (n : ℕ). lines_from (words_in (values_in s)) 0 vs ++ drop n s) (whole_values s) (whole_used s)
