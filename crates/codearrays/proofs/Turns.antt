-- The loops that convert words, over any rule g: the start, a turn and the end of one that looks for the lowest word that g
-- refuses, and of one that writes what g makes of each; and the rules of packing and unpacking. Assumes nothing.
use mathlib.Core.List.{List, map}
use mathlib.Core.Path.{◌≡◌, sym, ap, ◌∙◌, subst}
use Prim.Native.Nat.{ℕ, ◌+◌, ◌≤◌, ◌<◌}
use native.Mathlib.Nat.{le_antisymm, lt_trans, lt_of_lt_of_le}
use lib.ListN.{length, get_or, set}
use borrow.Author.Count.{below_more}
use Rattle.laws.specs.Fills.{FilledTo}
use Rattle.laws.proofs.Fills.{filled_more, filled_all}
use Rattle.laws.proofs.Lists.{tab-get_or, get_or-map}
use Rattle.std.specs.Prelude.{Result, Ok, Err}
use Rattle.std.specs.Result.{result_unwrap_or}
use Rattle.refusals.specs.declared.Refusal.{Refusal}
use Rattle.refusals.specs.Refusals.{number_of, in_numbers, refusal_number}
use Rattle.refusals.proofs.Apart.{number_some}
use Rattle.layouts.specs.declared.Layout.{Layout}
use Rattle.bylayout.specs.Answers.{Packed, Unpacked, as_code, no_code, as_pattern, no_pattern}
use Rattle.bylayout.specs.ByLayout.{packed_by, unpacked_by}
use Rattle.reports.specs.Reports.{report, report_at, first_refused}
use Rattle.codearrays.specs.Loops.{of_entry, no_refusal, Follows, pack_number_by, pack_code_by, unpack_number_by, unpack_pattern_by}
use Rattle.reports.proofs.Lowest.{first_refused_nothing, first_refused_only}

module _ (g : ℕ → ℕ) (xs : List ℕ) where
  -- ---- looking

  module _ (i : ℕ) (accepted : FilledTo no_refusal i (map g xs)) where
    -- those before i are accepted, and so is the next,
    pub one_more_accepted : i < length xs → (x : ℕ) → x ≡ get_or xs i 0 → 0 ≡ g x → FilledTo no_refusal (i + 1) (map g xs)
    one_more_accepted within x read none =
        record { holds = below_more (λ (k : ℕ). get_or (map g xs) k 0 ≡ 0) i accepted.holds (get_or-map g xs i 0 0 within ∙ sym (none ∙ ap g read)) }

    -- or it is the lowest that is refused,
    pub lowest_found : i < length xs → (x : ℕ) → x ≡ get_or xs i 0 → (e : Refusal) → number_of e ≡ g x
        → report_at (number_of e) i ≡ first_refused g 0 xs
    lowest_found within x read e is =
        sym
        (first_refused_only g xs (report_at (number_of e) i)
        (record { within = within; refused = sym (is ∙ ap g read); some = number_some e; before = λ k h. sym (get_or-map g xs k 0 0 (lt_trans h within)) ∙ accepted.holds k h }))

    -- or there is none left
    pub all_accepted : length xs ≤ i → report 0 ≡ first_refused g 0 xs
    all_accepted reached =
        sym
        (first_refused_nothing g xs
        (record { accepted = λ k h. sym (get_or-map g xs k 0 0 h) ∙ accepted.holds k (lt_of_lt_of_le h reached) }))

  -- ---- writing

  module _ (out : List ℕ) where
    module _ (i : ℕ) (long : length out ≡ length xs) (filled : FilledTo (of_entry g xs) i out) where
      -- those before i are written, and so is the next,
      pub one_more_written : i < length xs → (x : ℕ) → x ≡ get_or xs i 0 → (y : ℕ) → y ≡ g x → (after : List ℕ) → after ≡ set out i y
          → FilledTo (of_entry g xs) (i + 1) after
      unfolding of_entry
      one_more_written within x read y is after put =
          subst (FilledTo (of_entry g xs) (i + 1)) (sym put)
          (filled_more (of_entry g xs) i out y (is ∙ ap g read) (subst (λ (n : ℕ). i < n) (sym long) within) filled)

      -- or all are
      pub all_written : length xs ≤ i → i ≤ length xs → out ≡ map g xs
      unfolding of_entry
      all_written reached within =
          filled_all (of_entry g xs) (length xs) out long
          (subst (λ (n : ℕ). FilledTo (of_entry g xs) n out) (le_antisymm within reached) filled)
          ∙ tab-get_or g xs 0

-- ---- packing and unpacking by a layout follow the layout's rules

module _ (l : Layout) (answers : ℕ → Result ℕ Refusal → Type 0) where
  pub packing_follows : ((x : ℕ) (r : Result ℕ Refusal) → answers x r → in_numbers as_code no_code r ≡ packed_by l x)
      → Follows answers (pack_number_by l) (pack_code_by l)
  packing_follows packs = record { refused = λ x r h. number x r (packs x r h); made = λ x r h. code x r (packs x r h) }
    where
      number : (x : ℕ) (r : Result ℕ Refusal) → in_numbers as_code no_code r ≡ packed_by l x → refusal_number r ≡ pack_number_by l x
      number x (Ok y) is = ap (λ (p : Packed). p.number) is
      number x (Err e) is = ap (λ (p : Packed). p.number) is

      code : (x : ℕ) (r : Result ℕ Refusal) → in_numbers as_code no_code r ≡ packed_by l x → result_unwrap_or r 0 ≡ pack_code_by l x
      code x (Ok y) is = ap (λ (p : Packed). p.code) is
      code x (Err e) is = ap (λ (p : Packed). p.code) is

  pub unpacking_follows : ((c : ℕ) (r : Result ℕ Refusal) → answers c r → in_numbers as_pattern no_pattern r ≡ unpacked_by l c)
      → Follows answers (unpack_number_by l) (unpack_pattern_by l)
  unpacking_follows unpacks = record { refused = λ c r h. number c r (unpacks c r h); made = λ c r h. pattern c r (unpacks c r h) }
    where
      number : (c : ℕ) (r : Result ℕ Refusal) → in_numbers as_pattern no_pattern r ≡ unpacked_by l c → refusal_number r ≡ unpack_number_by l c
      number c (Ok y) is = ap (λ (u : Unpacked). u.number) is
      number c (Err e) is = ap (λ (u : Unpacked). u.number) is

      pattern : (c : ℕ) (r : Result ℕ Refusal) → in_numbers as_pattern no_pattern r ≡ unpacked_by l c → result_unwrap_or r 0 ≡ unpack_pattern_by l c
      pattern c (Ok y) is = ap (λ (u : Unpacked). u.pattern) is
      pattern c (Err e) is = ap (λ (u : Unpacked). u.pattern) is
