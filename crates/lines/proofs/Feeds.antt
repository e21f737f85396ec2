-- Line feeds: none stands among a number's digits. Assumes nothing.
use mathlib.Core.Bool.{Bool, true, cond}
use mathlib.Core.List.{List, [], ◌∷◌}
use mathlib.Core.Path.{◌≡◌, refl, ap₂, subst}
use Prim.Native.Nat.{ℕ, ◌+◌, ◌≤◌, ◌<◌}
use native.Mathlib.Nat.{not-le_of_lt}
use borrow.Author.Tests.{ltb-true, ne_eqb}
use Rattle.laws.specs.Lists.{times}
use Rattle.laws.specs.Tables.{every}
use Rattle.laws.proofs.Tests.{and_left, and_right}
use Rattle.lines.specs.Numerals.{digits}
use Rattle.lines.specs.Lines.{base}
use Rattle.lines.specs.Reading.{worth}
use Rattle.lines.proofs.Spans.{is_digit, digits_all}

-- a byte that is no digit does not stand in digits
no_other : (base b : ℕ) → base ≤ worth b → (ds : List ℕ) → every (is_digit base) ds ≡ true → times b ds ≡ 0
unfolding times
no_other base b none [] all = refl
no_other base b none (d ∷ ds) all =
    ap₂ (λ (x : Bool) (k : ℕ). cond x 1 0 + k)
    (ne_eqb b d
    (λ (e : b ≡ d).
    not-le_of_lt (ltb-true (worth d) base (and_left (is_digit base d) (every (is_digit base) ds) all)) (subst (λ (c : ℕ). base ≤ worth c) e none)))
    (no_other base b none ds (and_right (is_digit base d) (every (is_digit base) ds) all))

-- as the line feed, which is none in any base
pub digits_no_feed : (base k n : ℕ) → 0 < base → base ≤ 16 → times 10 (digits base k n) ≡ 0
unfolding worth
digits_no_feed base k n some small = no_other base 10 small (digits base k n) (digits_all base some small k n)
