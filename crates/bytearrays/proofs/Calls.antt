-- The calls on bytes in the forms in which the code comes to them: where a length is ragged they are refused, and where none is they are
-- the calls on words. Over any call, by what it refuses before the lengths, what the call on words reports and
-- what that leaves. Assumes nothing.
use mathlib.Core.Bool.{Bool, true, false, ◌||◌, true≢false}
use mathlib.Core.List.{List}
use mathlib.Core.Path.{◌≡◌, refl, sym, ap, ◌∙◌}
use Prim.Native.Nat.{ℕ, ◌<◌}
use lib.ListN.{length, get_or}
use Rattle.std.specs.Prelude.{Result, Ok, Err}
use Rattle.std.specs.Result.{OnErr}
use Rattle.refusals.specs.declared.Refusal.{Refusal}
use Rattle.refusals.specs.Refusals.{number_of}
use Rattle.refusals.proofs.Apart.{number_some}
use Rattle.reports.specs.declared.Refused.{Refused}
use Rattle.reports.specs.declared.Report.{Report}
use Rattle.reports.specs.Reports.{report, reported_by}
use Rattle.words.specs.Bytes.{words_of, ragged, one_ragged}
use Rattle.words.proofs.RoundTrips.{are_bytes_of}
use Rattle.bytearrays.specs.Calls.{ragged_refusal, bytes_reported, bytes_afterwards}
use Rattle.bytearrays.proofs.Outcomes.{bytes_reported_lem, refused-kept, accepted_bytes}
use Rattle.bytearrays.proofs.Ragged.{refused_ragged, accepted_whole}

module _ (before : ℕ) (on_words : Report) (xs out : List ℕ) where
  abbrev answer : Report
  answer = bytes_reported before on_words xs out

  -- ---- where a length is ragged

  module _ (e : Refusal) (is : number_of e ≡ ragged_refusal before (length xs) (length out)) where
    pub ragged_report : report (number_of e) ≡ answer
    ragged_report =
        let some = refused_ragged (length xs) (length out) before e is in
        bytes_reported_lem before on_words xs out (report (number_of e)) (λ uneven. ap report some.1)
        (λ even. absurd (true≢false (sym some.0 ∙ even)))

    pub ragged_output : (leaves : List ℕ) → out ≡ bytes_afterwards answer leaves out
    ragged_output leaves = refused-kept answer leaves out (report (number_of e)) ragged_report (number_some e)

  -- ---- where none is

  module _ (none : 0 ≡ ragged_refusal before (length xs) (length out)) (r : Result Unit Refused) (is : reported_by r ≡ on_words) where
    whole : one_ragged (length xs) (length out) ≡ false
    whole = accepted_whole (length xs) (length out) before none

    pub whole_report : reported_by r ≡ answer
    whole_report =
        bytes_reported_lem before on_words xs out (reported_by r) (λ uneven. absurd (true≢false (sym uneven ∙ whole))) (λ even. is)

    output_whole : ragged (length out) ≡ false
    output_whole = go (ragged (length xs)) (ragged (length out)) whole
      where
        go : (a b : Bool) → (a || b) ≡ false → b ≡ false
        go true b h = absurd (true≢false h)
        go false b h = h

    -- a refused call has left what there was, and an accepted one the bytes of the words that are left
    pub whole_output : (leaves after : List ℕ) → OnErr r (after ≡ out) → length after ≡ length out → ((i : ℕ) → get_or after i 0 < 256)
        → words_of after ≡ leaves → after ≡ bytes_afterwards answer leaves out
    whole_output leaves after kept long small left = go r whole_report kept
      where
        left_whole : ragged (length after) ≡ false
        left_whole = ap ragged long ∙ output_whole

        go : (r : Result Unit Refused) → reported_by r ≡ answer → OnErr r (after ≡ out) → after ≡ bytes_afterwards answer leaves out
        go (Ok y) reports h = accepted_bytes answer leaves out (report 0) reports refl after (are_bytes_of after small left_whole leaves left)
        go (Err e) reports h = h ∙ refused-kept answer leaves out (reported_by (Err e)) reports (number_some e.refusal)
