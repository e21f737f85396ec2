-- The array call in the forms in which the code comes to it, from what was decided: what the loop may lean on, what is reported,
-- and what the output holds. Assumes nothing.
use mathlib.Core.Bool.{Bool, true, false}
use mathlib.Core.List.{List}
use mathlib.Core.Path.{◌≡◌, sym, ap, ◌∙◌}
use Prim.Native.Nat.{ℕ, ◌≤◌}
use lib.ListN.{length}
use Rattle.grid.specs.declared.Format.{Format}
use Rattle.magnitudes.specs.declared.Settings.{Settings}
use Rattle.magnitudes.specs.Modes.{mode_of, uses_word}
use Rattle.magnitudes.specs.BySettings.{settings}
use Rattle.rounding.specs.BySettings.{Ready, Refused}
use Rattle.rounding.proofs.Preparations.{ready-none, ready-settings, refused_is, refused_some}
use Rattle.refusals.specs.declared.Refusal.{Refusal}
use Rattle.refusals.specs.Refusals.{number_of}
use Rattle.reports.specs.Reports.{report}
use Rattle.arrays.specs.Rounding.{lengths_refusal, refusal_of, reported, afterwards}
use Rattle.arrays.specs.Loops.{decided, rounded_all_by}
use Rattle.arrays.proofs.Accepted.{lengths_agree, words_suffice, lengths_accepted}
use Rattle.arrays.proofs.Outcomes.{refused-afterwards, rounded_with_words, rounded_without_words}

module _ (f : Format) (mode r : ℕ) (words xs out : List ℕ) (m n o : ℕ) (m_is : m ≡ length words) (n_is : n ≡ length xs) (o_is : o ≡ length out) where
  -- what is decided by the counts is decided by the lengths
  by_lengths : decided f mode r m n o ≡ decided f mode r (length words) (length xs) (length out)
  by_lengths =
      ap (λ (k : ℕ). decided f mode r k n o) m_is ∙ ap (λ (k : ℕ). decided f mode r (length words) k o) n_is
      ∙ ap (decided f mode r (length words) (length xs)) o_is

  module _ (s : Settings) (ready : Ready s ≡ decided f mode r m n o) where
    accepted : refusal_of f mode r words xs out ≡ 0
    unfolding decided
    accepted = ready-none (refusal_of f mode r words xs out) (settings f (mode_of mode r)) s (sym (ready ∙ by_lengths))

    made : s ≡ settings f (mode_of mode r)
    unfolding decided
    made = ready-settings (refusal_of f mode r words xs out) (settings f (mode_of mode r)) s (sym (ready ∙ by_lengths))

    lengths : lengths_refusal (mode_of mode r) (length words) (length xs) (length out) ≡ 0
    lengths = lengths_accepted f mode r (length words) (length xs) (length out) accepted

    -- the settings hold the call's mode
    named : s.mode ≡ mode_of mode r
    unfolding settings
    named = ap (λ (t : Settings). t.mode) made

    -- it has as many places to write as to read
    pub ready_lengths : length out ≡ length xs
    ready_lengths = lengths_agree (mode_of mode r) (length words) (length xs) (length out) lengths

    -- and a word for each where words are used
    pub ready_words : (b : Bool) → b ≡ uses_word s.mode → b ≡ true → length xs ≤ length words
    ready_words b tested used =
        words_suffice (mode_of mode r) (length words) (length xs) (length out) lengths (sym (ap uses_word named) ∙ sym tested ∙ used)

    pub ready-report : report 0 ≡ reported f mode r words xs out
    unfolding reported
    ready-report = ap report (sym accepted)

    pub ready_with_words : (after : List ℕ) → after ≡ rounded_all_by s words xs → after ≡ afterwards f mode r words xs out
    ready_with_words after is =
        is ∙ ap (λ (t : Settings). rounded_all_by t words xs) made ∙ rounded_with_words f mode r words xs out accepted

    pub ready_without_words : (b : Bool) → b ≡ uses_word s.mode → b ≡ false → (after : List ℕ) → after ≡ rounded_all_by s xs xs
        → after ≡ afterwards f mode r words xs out
    ready_without_words b tested unused after is =
        is ∙ ap (λ (t : Settings). rounded_all_by t xs xs) made
        ∙ rounded_without_words f mode r words xs out accepted (sym (ap uses_word named) ∙ sym tested ∙ unused)

  module _ (e : Refusal) (refused : Refused (number_of e) ≡ decided f mode r m n o) where
    pub refused-report : report (number_of e) ≡ reported f mode r words xs out
    unfolding decided reported
    refused-report = ap report (refused_is (refusal_of f mode r words xs out) (settings f (mode_of mode r)) (number_of e) (sym (refused ∙ by_lengths)))

    pub refused_output : out ≡ afterwards f mode r words xs out
    unfolding decided
    refused_output =
        sym
        (refused-afterwards f mode r words xs out
        (refused_some (refusal_of f mode r words xs out) (settings f (mode_of mode r)) (number_of e) (sym (refused ∙ by_lengths))))
