-- Demand 3 for an array call: one input at every place, and words that have each random number once. Assumes nothing.
use mathlib.Core.List.{List}
use mathlib.Core.Path.{◌≡◌, ap, ◌∙◌}
use Prim.Native.Nat.{ℕ, ◌≤◌}
use lib.ListN.{length, get_or, replicate, length-replicate, get_or-replicate}
use Rattle.laws.specs.Lists.{tab}
use Rattle.laws.proofs.Lists.{tab_alike, tab-get_or}
use Rattle.patterns.specs.Patterns.{sign}
use Rattle.grid.specs.declared.Format.{Format}
use Rattle.grid.specs.Formats.{xmax}
use Rattle.magnitudes.specs.declared.Mode.TheVariants.{Stochastic}
use Rattle.magnitudes.specs.Modes.{mode_of}
use Rattle.rounding.specs.Rounded.{rounded}
use Rattle.rounding.proofs.Refusals.{accepted_inside}
use Rattle.meaning.specs.Totals.{magnitude_in, signed, total, answers, chopped, EachOnce}
use Rattle.meaning.proofs.Totals.{total_in_any_order}
use Rattle.arrays.specs.Rounding.{refusal_of, rounded_at, afterwards}
use Rattle.arrays.proofs.Accepted.{numbers_accepted}
use Rattle.arrays.proofs.Outcomes.{accepted-afterwards}

module _ (f : Format) (r x : ℕ) (words out : List ℕ) (accepted : refusal_of f 7 r words (replicate (length words) x) out ≡ 0) where
  -- the output is the list of answers that demand 3 adds up
  pub repeated_input : afterwards f 7 r words (replicate (length words) x) out ≡ answers f r x words
  unfolding rounded_at mode_of answers
  repeated_input =
      let xs = replicate (length words) x in
      let answer : ℕ → ℕ = λ word. rounded f (Stochastic r) word x in
      accepted-afterwards f 7 r words xs out accepted
      ∙ ap (λ (n : ℕ). tab n (rounded_at f (Stochastic r) words xs)) (length-replicate (length words) x)
      ∙ tab_alike (length words) (rounded_at f (Stochastic r) words xs) (λ (i : ℕ). answer (get_or words i 0))
      (λ i within. ap (rounded f (Stochastic r) (get_or words i 0)) (get_or-replicate (length words) i x 0 within))
      ∙ tab-get_or answer words 0

  -- so its total is 2^r times the chopped input
  pub array_total : magnitude_in x ≤ xmax f → EachOnce r words
      → total (afterwards f 7 r words (replicate (length words) x) out) ≡ signed (sign x) (chopped f r (magnitude_in x))
  array_total most each =
      let inside = accepted_inside f 7 r (numbers_accepted f 7 r (length words) (length (replicate (length words) x)) (length out) accepted) in
      ap total repeated_input ∙ (total_in_any_order f r x words inside most each).exact
