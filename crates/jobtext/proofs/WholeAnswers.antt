-- Whole answers, printed line after line on an empty page, and which answer a report has. Assumes nothing.
use mathlib.Core.List.{List, [], ◌∷◌, ◌++◌, append_assoc, append-nil}
use mathlib.Core.Path.{◌≡◌, sym, ap, ◌∙◌}
use Prim.Native.Nat.{ℕ, ◌+◌, ◌≤◌, ◌<◌}
use native.Mathlib.Nat.{le_antisymm}
use native.Mathlib.Numerals.{add-one}
use native.Mathlib.Omega.{arith}
use lib.ListN.{length, get_or, take}
use lib.Seq.{take-suc, take-length, length-take-le}
use borrow.Author.Tests.{ne_eqb}
use Rattle.std.specs.Prelude.{Result, Ok, Err, Bool, cond}
use Rattle.refusals.specs.Refusals.{number_of}
use Rattle.refusals.proofs.Apart.{number_some}
use Rattle.reports.specs.declared.Refused.{Refused}
use Rattle.reports.specs.Reports.{reported_by}
use Rattle.jobtext.specs.Answers.{status_line, count_line, place_line, pattern_line, pattern_lines, accepted, refused, printed}
use Rattle.jobtext.proofs.Lengths.{status_length, place-length, count_length, pattern_length, heads_short}

module _ (page : List ℕ) (empty : page ≡ []) where
  -- there is room for the first line
  pub first_fits : (number : ℕ) → length page + length (status_line number) ≤ 19472
  first_fits number = omega (arith, ap {A = List ℕ} (λ l. length l) empty, status_length number)

  module _ (number : ℕ) (first : List ℕ) (status : first ≡ page ++ status_line number) where
    alone : first ≡ status_line number
    alone = status ∙ ap {A = List ℕ} (λ l. l ++ status_line number) empty

    -- and for the place or the count behind it
    pub place_fits : (place : ℕ) → length first + length (place_line place) ≤ 19472
    place_fits place = omega (arith, ap {A = List ℕ} (λ l. length l) alone, status_length number, place-length place)

    pub count_fits : (n : ℕ) → length first + length (count_line n) ≤ 19472
    count_fits n = omega (arith, ap {A = List ℕ} (λ l. length l) alone, status_length number, count_length n)

    -- with its place a refusal is whole
    pub refused_printed : (place : ℕ) (second : List ℕ) → second ≡ first ++ place_line place → second ≡ refused number place
    unfolding refused
    refused_printed place second is = is ∙ ap {A = List ℕ} (λ l. l ++ place_line place) alone

    -- and with the count the patterns follow, of which none is printed
    pub heads_printed : (ys second : List ℕ) → number ≡ 0 → second ≡ first ++ count_line (length ys)
        → second ≡ status_line 0 ++ (count_line (length ys) ++ pattern_lines (take 0 ys))
    unfolding pattern_lines
    heads_printed ys second none is =
        is
        ∙ ap {A = List ℕ} (λ l. l ++ count_line (length ys)) (alone ∙ ap (λ (n : ℕ). status_line n) none)
        ∙ ap {A = List ℕ} (λ l. status_line 0 ++ l) (sym (append-nil (count_line (length ys))))

-- ---- the patterns

-- a pattern more is a line more
lines_snoc : (ys : List ℕ) (y : ℕ) → pattern_lines (ys ++ (y ∷ [])) ≡ pattern_lines ys ++ pattern_line y
unfolding pattern_lines
lines_snoc [] y = append-nil (pattern_line y)
lines_snoc (z ∷ zs) y =
    ap {A = List ℕ} (λ l. pattern_line z ++ l) (lines_snoc zs y) ∙ sym (append_assoc (pattern_line z) (pattern_lines zs) (pattern_line y))

module _ (ys page : List ℕ) (i : ℕ) (so_far : page ≡ status_line 0 ++ (count_line (length ys) ++ pattern_lines (take i ys))) where
  module _ (within : i < length ys) where
    -- there is room for the next line,
    pub pattern_fits : length ys ≤ 1024 → (y : ℕ) → length page + length (pattern_line y) ≤ 19472
    pattern_fits many y =
        omega (
          arith,
          ap {A = List ℕ} (λ l. length l) so_far,
          heads_short (length ys) (take i ys),
          length-take-le i ys (omega arith),
          pattern_length y,
        )

    -- behind which one more is printed
    pub pattern_printed : (after : List ℕ) → after ≡ page ++ pattern_line (get_or ys i 0)
        → after ≡ status_line 0 ++ (count_line (length ys) ++ pattern_lines (take (i + 1) ys))
    pattern_printed after is =
        is
        ∙ ap {A = List ℕ} (λ l. l ++ pattern_line (get_or ys i 0)) so_far
        ∙ append_assoc (status_line 0) (count_line (length ys) ++ pattern_lines (take i ys)) (pattern_line (get_or ys i 0))
        ∙ ap {A = List ℕ} (λ l. status_line 0 ++ l)
        (append_assoc (count_line (length ys)) (pattern_lines (take i ys)) (pattern_line (get_or ys i 0))
        ∙ ap {A = List ℕ} (λ l. count_line (length ys) ++ l)
        (sym
        (ap (λ (n : ℕ). pattern_lines (take n ys)) (add-one i)
        ∙ ap {A = List ℕ} (λ l. pattern_lines l) (take-suc ys i 0 within)
        ∙ lines_snoc (take i ys) (get_or ys i 0))))

  -- at the end the answer is whole
  pub accepted_printed : length ys ≤ i → i ≤ length ys → page ≡ accepted ys
  unfolding accepted
  accepted_printed done within =
      so_far
      ∙ ap {A = List ℕ} (λ l. status_line 0 ++ (count_line (length ys) ++ pattern_lines l))
      (ap (λ (n : ℕ). take n ys) (le_antisymm within done) ∙ take-length ys)

-- ---- by what the array call came to

module _ (outcome : Result Unit Refused) (ys page : List ℕ) where
  -- status 0: what was rounded
  pub printed-accepted : (done : Unit) → outcome ≡ Ok done → page ≡ accepted ys → page ≡ printed (reported_by outcome) ys
  unfolding printed
  printed-accepted done is all = all ∙ ap (λ (z : Result Unit Refused). printed (reported_by z) ys) (sym is)

  -- another: the refusal
  pub printed-refused : (e : Refused) → outcome ≡ Err e → page ≡ refused (number_of e.refusal) e.place → page ≡ printed (reported_by outcome) ys
  unfolding printed
  printed-refused e is all =
      all ∙ sym (ap (λ (b : Bool). cond b (accepted ys) (refused (number_of e.refusal) e.place)) (ne_eqb (number_of e.refusal) 0 (number_some e.refusal)))
      ∙ ap (λ (z : Result Unit Refused). printed (reported_by z) ys) (sym is)
