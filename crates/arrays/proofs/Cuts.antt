-- An array call may be cut: the part of its arrays from one place up to another is accepted where the whole is, and its answer is
-- that part of the whole's answer. Assumes nothing.
use mathlib.Core.Bool.{true}
use mathlib.Core.List.{List}
use mathlib.Core.Path.{◌≡◌, sym, ap, ap₂, ◌∙◌}
use Prim.Native.Nat.{ℕ, ◌+◌, ◌-◌, ◌≤◌, ◌<◌, min}
use native.Mathlib.Omega.{arith}
use lib.ListN.{length}
use lib.Seq.{slice}
use Rattle.laws.specs.Lists.{tab}
use Rattle.laws.proofs.Lists.{tab_alike, length_part, get_or_part, tab_part}
use Rattle.grid.specs.declared.Format.{Format}
use Rattle.magnitudes.specs.Modes.{mode_of, uses_word}
use Rattle.rounding.specs.Rounded.{rounded}
use Rattle.arrays.specs.Rounding.{lengths_refusal, refusal_of, rounded_at, afterwards}
use Rattle.arrays.proofs.Accepted.{lengths_agree, words_suffice, lengths_accept, numbers_accepted, lengths_accepted, call_accepted}
use Rattle.arrays.proofs.Outcomes.{accepted-afterwards}

module _ (f : Format) (mode r : ℕ) (words xs out : List ℕ) (accepted : refusal_of f mode r words xs out ≡ 0) (from to : ℕ) where
  lengths : lengths_refusal (mode_of mode r) (length words) (length xs) (length out) ≡ 0
  lengths = lengths_accepted f mode r (length words) (length xs) (length out) accepted

  -- the part has as many outputs as inputs
  cut_lengths : length (slice from to out) ≡ length (slice from to xs)
  cut_lengths =
      let long = lengths_agree (mode_of mode r) (length words) (length xs) (length out) lengths in
      length_part from to out ∙ ap (λ (n : ℕ). min to n - from) long ∙ sym (length_part from to xs)

  -- and words enough where they are used
  cut_words : uses_word (mode_of mode r) ≡ true → length (slice from to xs) ≤ length (slice from to words)
  cut_words used =
      let enough = words_suffice (mode_of mode r) (length words) (length xs) (length out) lengths used in
      omega (arith, length_part from to xs, length_part from to words)

  -- so it is accepted
  pub cut_accepted : refusal_of f mode r (slice from to words) (slice from to xs) (slice from to out) ≡ 0
  cut_accepted =
      call_accepted f mode r (length (slice from to words)) (length (slice from to xs)) (length (slice from to out))
      (numbers_accepted f mode r (length words) (length xs) (length out) accepted)
      (lengths_accept (mode_of mode r) (length (slice from to words)) (length (slice from to xs)) (length (slice from to out)) cut_lengths cut_words)

  -- each of its places has the answer of the place that it was cut from
  cut_place : (i : ℕ) → i < min to (length xs) - from
      → rounded_at f (mode_of mode r) (slice from to words) (slice from to xs) i ≡ rounded_at f (mode_of mode r) words xs (from + i)
  unfolding rounded_at
  cut_place i within =
      ap₂ (λ (w x : ℕ). rounded f (mode_of mode r) w x) (get_or_part from to words i 0 (omega arith)) (get_or_part from to xs i 0 (omega arith))

  -- and its answer is that part of the answer
  pub cut_afterwards : afterwards f mode r (slice from to words) (slice from to xs) (slice from to out)
      ≡ slice from to (afterwards f mode r words xs out)
  cut_afterwards =
      let part = rounded_at f (mode_of mode r) (slice from to words) (slice from to xs) in
      let whole = rounded_at f (mode_of mode r) words xs in
      accepted-afterwards f mode r (slice from to words) (slice from to xs) (slice from to out) cut_accepted
      ∙ ap (λ (n : ℕ). tab n part) (length_part from to xs)
      ∙ tab_alike (min to (length xs) - from) part (λ (i : ℕ). whole (from + i)) cut_place
      ∙ sym (tab_part from to (length xs) whole 0)
      ∙ ap (slice from to) (sym (accepted-afterwards f mode r words xs out accepted))
