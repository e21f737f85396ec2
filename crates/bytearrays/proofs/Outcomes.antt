-- What a call on bytes reports and leaves in the output, over any call on words. Assumes nothing.
use mathlib.Core.Bool.{Bool, true, false, cond}
use mathlib.Core.List.{List}
use mathlib.Core.Path.{◌≡◌, refl, sym, ap, ◌∙◌}
use Prim.Native.Nat.{ℕ}
use lib.Dec.{eqb}
use lib.ListN.{length}
use borrow.Author.Tests.{eq-eqb, ne_eqb}
use Rattle.reports.specs.declared.Report.{Report}
use Rattle.reports.specs.Reports.{report}
use Rattle.words.specs.Bytes.{bytes_of, one_ragged}
use Rattle.bytearrays.specs.Calls.{or_five, bytes_reported, bytes_afterwards}

-- ---- what is reported

-- a report is the call's if it is right for ragged lengths and for all others
pub bytes_reported_lem : (before : ℕ) (on_words : Report) (xs out : List ℕ) (y : Report)
    → (one_ragged (length xs) (length out) ≡ true → y ≡ report (or_five before))
    → (one_ragged (length xs) (length out) ≡ false → y ≡ on_words)
    → y ≡ bytes_reported before on_words xs out
unfolding bytes_reported
bytes_reported_lem before on_words xs out y = go (one_ragged (length xs) (length out))
  where
    refused : Report
    refused = report (or_five before)

    go : (b : Bool) → (b ≡ true → y ≡ refused) → (b ≡ false → y ≡ on_words) → y ≡ cond b refused on_words
    go true some none = some refl
    go false some none = none refl

-- ---- what the output holds, by the report

module _ (answer : Report) (leaves out : List ℕ) (y : Report) (is : y ≡ answer) where
  -- as the number is 0 or not
  abbrev left_by : Bool → List ℕ
  left_by accepted = cond accepted (bytes_of leaves) out

  same_test : eqb answer.number 0 ≡ eqb y.number 0
  same_test = ap (λ (r : Report). eqb r.number 0) (sym is)

  -- a refused call leaves what there was,
  pub refused-kept : (y.number ≡ 0 → ⊥) → out ≡ bytes_afterwards answer leaves out
  unfolding bytes_afterwards
  refused-kept some = sym (ap left_by (same_test ∙ ne_eqb y.number 0 some))

  -- an accepted one the bytes of what the call on words leaves
  pub accepted_bytes : y.number ≡ 0 → (after : List ℕ) → after ≡ bytes_of leaves → after ≡ bytes_afterwards answer leaves out
  unfolding bytes_afterwards
  accepted_bytes none after held = held ∙ sym (ap left_by (same_test ∙ eq-eqb y.number 0 none))
