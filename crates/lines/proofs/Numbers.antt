-- How the digits of a number come off one by one from the last. Assumes nothing.
use mathlib.Core.List.{List, [], ◌∷◌}
use mathlib.Core.Path.{◌≡◌, sym, ap, ◌∙◌}
use Prim.Native.Nat.{ℕ, suc, ◌/◌, ◌%◌}
use native.Mathlib.Nat.{le_refl}
use native.Mathlib.Omega.{arith}
use lib.ListN.{get_or, take}
use lib.Seq.{get_or-take, take-take, take_at, get_or_at}
use Rattle.lines.specs.Numerals.{digit, digits}
use Rattle.lines.proofs.Lengths.{length_digits}

-- where `rest` has the digits of a whole up to place i
module _ (base i rest : ℕ) (whole : List ℕ) (are : digits base (suc i) rest ≡ take (suc i) whole) where
  -- its last digit stands at place i
  pub last_digit_lem : digit (rest % base) ≡ get_or whole i 0
  unfolding digits
  last_digit_lem =
      sym (get_or_at (digits base i (rest / base)) (digit (rest % base)) [] 0 i (length_digits base i (rest / base)))
      ∙ ap (λ (l : List ℕ). get_or l i 0) are
      ∙ get_or-take (suc i) whole i 0 (le_refl (suc i))

  -- and the quotient has those before it
  pub other_digits : digits base i (rest / base) ≡ take i whole
  unfolding digits
  other_digits =
      sym (take_at (digits base i (rest / base)) (digit (rest % base) ∷ []) i (length_digits base i (rest / base)))
      ∙ ap (λ (l : List ℕ). take i l) are
      ∙ take-take i (suc i) whole (omega arith)
