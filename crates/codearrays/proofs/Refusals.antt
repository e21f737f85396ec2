-- What the format and the lengths refuse. Assumes nothing.
use mathlib.Core.Path.{◌≡◌}
use Prim.Native.Nat.{ℕ}
use borrow.Author.Tests.{eq-eqb, ne_eqb}
use Rattle.codearrays.specs.Codes.{then_lengths}

module _ (number inputs outputs : ℕ) where
  pub format_refused : (number ≡ 0 → ⊥) → number ≡ then_lengths number inputs outputs
  unfolding then_lengths
  format_refused some = simp (ne_eqb number 0 some)

  pub accepts_output : number ≡ 0 → outputs ≡ inputs → 0 ≡ then_lengths number inputs outputs
  unfolding then_lengths
  accepts_output none same = simp (eq-eqb number 0 none, eq-eqb outputs inputs same)
