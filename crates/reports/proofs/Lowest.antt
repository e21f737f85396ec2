-- The lowest place that a rule refuses: the report that is computed names it, and no other report does. Over any rule that gives
-- each entry the number of its refusal. Assumes nothing.
use mathlib.Core.Bool.{Bool, true, false, cond}
use mathlib.Core.List.{List, [], ◌∷◌}
use mathlib.Core.Logic.{◌⊎◌, inl, inr}
use mathlib.Core.Path.{◌≡◌, refl, sym, ap, ap₂, ◌∙◌, subst}
use Prim.Native.Nat.{ℕ, zero, suc, ◌+◌, ◌<◌, zero-le, suc-le-suc}
use native.Mathlib.Nat.{add-zero, zero-add, add-suc, suc-add, le_of_suc-le-suc, not-suc-le-zero}
use lib.Dec.{eqb}
use lib.ListN.{length, get_or}
use borrow.Author.Tests.{eqb-true, eqb-false, eq-eqb, ne_eqb}
use Rattle.reports.specs.declared.Report.{Report}
use Rattle.reports.specs.Reports.{report, report_at, first_refused, NoneRefused, LowestRefused}

module _ (refuses : ℕ → ℕ) where
  -- ---- one entry after the other

  -- an entry that is accepted is passed over
  passed : (i x : ℕ) (xs : List ℕ) → refuses x ≡ 0 → first_refused refuses i (x ∷ xs) ≡ first_refused refuses (suc i) xs
  unfolding first_refused
  passed i x xs none = ap (λ (b : Bool). cond b (first_refused refuses (suc i) xs) (report_at (refuses x) i)) (eq-eqb (refuses x) 0 none)

  -- one that is refused is reported
  stopped : (i x : ℕ) (xs : List ℕ) → (refuses x ≡ 0 → ⊥) → first_refused refuses i (x ∷ xs) ≡ report_at (refuses x) i
  unfolding first_refused
  stopped i x xs some = ap (λ (b : Bool). cond b (first_refused refuses (suc i) xs) (report_at (refuses x) i)) (ne_eqb (refuses x) 0 some)

  -- another rule that agrees on the entries finds the same
  pub first_refused_alike : (other : ℕ → ℕ) (i : ℕ) (xs : List ℕ) → ((k : ℕ) → k < length xs → refuses (get_or xs k 0) ≡ other (get_or xs k 0))
      → first_refused refuses i xs ≡ first_refused other i xs
  unfolding first_refused
  first_refused_alike other i [] same = refl
  first_refused_alike other i (x ∷ xs) same =
      ap₂ (λ (n : ℕ) (r : Report). cond (eqb n 0) r (report_at n i)) (same 0 (suc-le-suc zero-le))
      (first_refused_alike other (suc i) xs (λ k h. same (suc k) (suc-le-suc h)))

  -- ---- from the lowest place to the report, in a list that begins at place i

  none_from : (i : ℕ) (xs : List ℕ) → ((k : ℕ) → k < length xs → refuses (get_or xs k 0) ≡ 0) → first_refused refuses i xs ≡ report 0
  unfolding first_refused
  none_from i [] none = refl
  none_from i (x ∷ xs) none =
      passed i x xs (none 0 (suc-le-suc zero-le)) ∙ none_from (suc i) xs (λ k h. none (suc k) (suc-le-suc h))

  lowest_from : (i : ℕ) (xs : List ℕ) (k : ℕ) → k < length xs → (refuses (get_or xs k 0) ≡ 0 → ⊥)
      → ((j : ℕ) → j < k → refuses (get_or xs j 0) ≡ 0) → first_refused refuses i xs ≡ report_at (refuses (get_or xs k 0)) (i + k)
  lowest_from i [] k h some before = absurd (not-suc-le-zero h)
  lowest_from i (x ∷ xs) zero h some before = stopped i x xs some ∙ ap (report_at (refuses x)) (sym (add-zero i))
  lowest_from i (x ∷ xs) (suc k) h some before =
      passed i x xs (before 0 (suc-le-suc zero-le))
      ∙ lowest_from (suc i) xs k (le_of_suc-le-suc h) some (λ j g. before (suc j) (suc-le-suc g))
      ∙ ap (report_at (refuses (get_or xs k 0))) (suc-add i k ∙ sym (add-suc i k))

  -- where no entry is refused, number 0 and place 0 are reported,
  pub first_refused_nothing : (xs : List ℕ) → NoneRefused refuses xs → first_refused refuses 0 xs ≡ report 0
  first_refused_nothing xs none = none_from 0 xs none.accepted

  -- and where a report names the lowest place that is refused, it is the one that is made
  pub first_refused_only : (xs : List ℕ) (r : Report) → LowestRefused refuses xs r → first_refused refuses 0 xs ≡ r
  first_refused_only xs r lowest =
      lowest_from 0 xs r.place lowest.within (λ none. lowest.some (sym lowest.refused ∙ none)) lowest.before
      ∙ ap₂ report_at lowest.refused (zero-add r.place)

  -- ---- from the report to the lowest place

  -- no entry is refused, or one is the lowest that is
  abbrev NoneOrLowest : List ℕ → Type 0
  NoneOrLowest xs = NoneRefused refuses xs ⊎ ((r : Report) × LowestRefused refuses xs r)

  -- what is accepted at the first place, and at n places from the next one on
  with_first : (x : ℕ) (xs : List ℕ) (n : ℕ) → refuses x ≡ 0 → ((i : ℕ) → i < n → refuses (get_or xs i 0) ≡ 0)
      → (i : ℕ) → i < suc n → refuses (get_or (x ∷ xs) i 0) ≡ 0
  with_first x xs n none rest zero h = none
  with_first x xs n none rest (suc i) h = rest i (le_of_suc-le-suc h)

  -- behind an entry that is accepted a lowest one stands a place further
  after_accepted : (x : ℕ) (xs : List ℕ) → refuses x ≡ 0 → NoneOrLowest xs → NoneOrLowest (x ∷ xs)
  after_accepted x xs none (inl rest) = inl (record { accepted = with_first x xs (length xs) none rest.accepted })
  after_accepted x xs none (inr found) =
      let lowest = found.1 in
      inr (
        report_at found.0.number (suc found.0.place),
        record {
          within = suc-le-suc lowest.within;
          refused = lowest.refused;
          some = lowest.some;
          before = with_first x xs found.0.place none lowest.before;
        },
      )

  none_or_lowest : (xs : List ℕ) → NoneOrLowest xs
  none_or_lowest [] = inl (record { accepted = λ i h. absurd (not-suc-le-zero h) })
  none_or_lowest (x ∷ xs) = go (eqb (refuses x) 0) refl (none_or_lowest xs)
    where
      go : (b : Bool) → eqb (refuses x) 0 ≡ b → NoneOrLowest xs → NoneOrLowest (x ∷ xs)
      go true e rest = after_accepted x xs (eqb-true (refuses x) 0 e) rest
      go false e rest =
          inr (
            report_at (refuses x) 0,
            record { within = suc-le-suc zero-le; refused = refl; some = eqb-false (refuses x) 0 e; before = λ i h. absurd (not-suc-le-zero h) },
          )

  -- the number is 0 only where no entry is refused,
  pub first_refused-none : (xs : List ℕ) → (first_refused refuses 0 xs).number ≡ 0 → NoneRefused refuses xs
  first_refused-none xs none = go (none_or_lowest xs)
    where
      go : NoneOrLowest xs → NoneRefused refuses xs
      go (inl all) = all
      go (inr found) =
          absurd (found.1.some (sym (ap (λ (r : Report). r.number) (first_refused_only xs found.0 found.1)) ∙ none))

  -- and any other number, with its place, names the lowest entry that is
  pub first_refused_lowest : (xs : List ℕ) → ((first_refused refuses 0 xs).number ≡ 0 → ⊥) → LowestRefused refuses xs (first_refused refuses 0 xs)
  first_refused_lowest xs some = go (none_or_lowest xs)
    where
      go : NoneOrLowest xs → LowestRefused refuses xs (first_refused refuses 0 xs)
      go (inl all) = absurd (some (ap (λ (r : Report). r.number) (first_refused_nothing xs all)))
      go (inr found) = subst (LowestRefused refuses xs) (sym (first_refused_only xs found.0 found.1)) found.1
