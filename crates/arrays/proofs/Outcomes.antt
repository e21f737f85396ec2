-- What the output holds after a call: every place's answer where the call is accepted, by whatever way it was rounded, and what
-- it held where the call is refused. Assumes nothing.
use mathlib.Core.Bool.{Bool, false, cond}
use mathlib.Core.List.{List}
use mathlib.Core.Path.{◌≡◌, refl, sym, ap, ◌∙◌}
use Prim.Native.Nat.{ℕ}
use lib.Dec.{eqb}
use lib.ListN.{length, get_or}
use borrow.Author.Tests.{eq-eqb}
use Rattle.laws.specs.Lists.{tab}
use Rattle.laws.proofs.Lists.{tab_alike}
use Rattle.grid.specs.declared.Format.{Format}
use Rattle.magnitudes.specs.Modes.{mode_of, uses_word}
use Rattle.magnitudes.specs.BySettings.{settings}
use Rattle.rounding.specs.Rounded.{rounded}
use Rattle.rounding.specs.Calls.{refusal}
use Rattle.rounding.proofs.WholeCalls.{accepted_pattern}
use Rattle.arrays.specs.Rounding.{array_refusal, refusal_of, rounded_at, afterwards}
use Rattle.arrays.specs.Loops.{rounded_by_at, rounded_all_by}
use Rattle.arrays.proofs.Accepted.{numbers_accepted}
use Rattle.arrays.proofs.UnreadWords.{unused_unread}

module _ (f : Format) (mode r : ℕ) (words xs out : List ℕ) where
  -- what is left in an output that held l, by whether the call is accepted
  abbrev left : List ℕ → Bool → List ℕ
  left l accepted = cond accepted (tab (length xs) (rounded_at f (mode_of mode r) words xs)) l

  -- a refused call leaves what there was
  pub refused-afterwards : eqb (refusal_of f mode r words xs out) 0 ≡ false → afterwards f mode r words xs out ≡ out
  unfolding afterwards
  refused-afterwards rejected = ap (left out) rejected

  module _ (none : refusal_of f mode r words xs out ≡ 0) where
    -- an accepted one leaves every place's answer
    pub accepted-afterwards : afterwards f mode r words xs out ≡ tab (length xs) (rounded_at f (mode_of mode r) words xs)
    unfolding afterwards
    accepted-afterwards = ap (left out) (eq-eqb (refusal_of f mode r words xs out) 0 none)

    -- whatever the output held before
    pub held_unread : (held : List ℕ) → length held ≡ length out → afterwards f mode r words xs held ≡ afterwards f mode r words xs out
    unfolding afterwards
    held_unread held long =
        ap (left held)
        (eq-eqb (refusal_of f mode r words xs held) 0 (ap (array_refusal f mode r (length words) (length xs)) long ∙ none))
        ∙ sym accepted-afterwards

    numbers : refusal f mode r ≡ 0
    numbers = numbers_accepted f mode r (length words) (length xs) (length out) none

    -- rounding every place by the settings, with its own word or with one that is as good, leaves the same
    all_rounded_with : (others : List ℕ)
        → ((i : ℕ) → rounded f (mode_of mode r) (get_or others i 0) (get_or xs i 0) ≡ rounded f (mode_of mode r) (get_or words i 0) (get_or xs i 0))
        → rounded_all_by (settings f (mode_of mode r)) others xs ≡ afterwards f mode r words xs out
    unfolding rounded_all_by rounded_by_at rounded_at
    all_rounded_with others alike =
        tab_alike (length xs) (rounded_by_at (settings f (mode_of mode r)) others xs) (rounded_at f (mode_of mode r) words xs)
        (λ i h. accepted_pattern f mode r numbers (get_or others i 0) (get_or xs i 0) ∙ alike i)
        ∙ sym accepted-afterwards

    pub rounded_with_words : rounded_all_by (settings f (mode_of mode r)) words xs ≡ afterwards f mode r words xs out
    rounded_with_words = all_rounded_with words (λ i. refl)

    -- in a mode that uses no words the patterns themselves are as good as any
    pub rounded_without_words : uses_word (mode_of mode r) ≡ false → rounded_all_by (settings f (mode_of mode r)) xs xs ≡ afterwards f mode r words xs out
    rounded_without_words unused =
        all_rounded_with xs (λ i. unused_unread f (mode_of mode r) (get_or xs i 0) (get_or words i 0) (get_or xs i 0) unused)
