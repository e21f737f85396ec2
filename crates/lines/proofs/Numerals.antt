-- Digits and what they are worth: a digit read back is the digit, and a number's digits are worth the number. Assumes nothing.
use mathlib.Core.Bool.{Bool, true, false, cond}
use mathlib.Core.List.{List, [], ◌∷◌, ◌++◌}
use mathlib.Core.Path.{◌≡◌, refl, ap₂, ◌∙◌, subst}
use Prim.Native.Nat.{ℕ, zero, suc, ◌+◌, ◌-◌, ◌*◌, ◌/◌, ◌%◌, ◌^◌, ◌≤◌, ◌<◌}
use native.Mathlib.Nat.{lt_of_lt_of_le, div-add-mod', div-lt_iff_lt-mul, mod-lt, pow-zero, pow-suc}
use native.Mathlib.Omega.{arith}
use lib.Dec.{ltb, eqb}
use borrow.Author.Tests.{eqb-true, ltb-true, ltb-false, lt-ltb, le-ltb}
use Rattle.laws.specs.Lists.{below}
use Rattle.laws.proofs.Lists.{get_or-tab}
use Rattle.laws.proofs.Tables.{every_at}
use Rattle.lines.specs.Numerals.{digit, digits}
use Rattle.lines.specs.Reading.{worth, value}

-- ---- one digit

-- a digit's byte is worth the digit
pub worth-digit : (d : ℕ) → d < 16 → worth (digit d) ≡ d
unfolding worth digit
worth-digit d h =
    subst (λ (x : ℕ). worth (digit x) ≡ x) (get_or-tab 16 (λ (i : ℕ). i) d 0 h)
    (eqb-true _ _ (every_at (λ (x : ℕ). eqb (worth (digit x)) x) (below 16) 0 refl d h))

-- and a byte that is worth a digit is the digit's byte
pub digit-worth : (b : ℕ) → worth b < 16 → digit (worth b) ≡ b
unfolding worth digit
digit-worth b h = go (ltb b 48) refl (ltb b 58) refl (ltb b 65) refl (ltb b 71) refl h
  where
    go :
        (below0 : Bool) → ltb b 48 ≡ below0 → (upto9 : Bool) → ltb b 58 ≡ upto9 → (below_a : Bool) → ltb b 65 ≡ below_a
        → (upto_f : Bool) → ltb b 71 ≡ upto_f
        → cond below0 16 (cond upto9 (b - 48) (cond below_a 16 (cond upto_f (b - 55) 16))) < 16
        → digit (cond below0 16 (cond upto9 (b - 48) (cond below_a 16 (cond upto_f (b - 55) 16)))) ≡ b
    go true _ _ _ _ _ _ _ h = absurd (omega arith)
    go false e true f _ _ _ _ h = let least = ltb-false b 48 e in let most = ltb-true b 58 f in simp (lt-ltb (b - 48) 10 (omega arith)) (omega arith)
    go false _ false _ true _ _ _ h = absurd (omega arith)
    go false _ false _ false e true f h = let least = ltb-false b 65 e in let most = ltb-true b 71 f in simp (le-ltb (b - 55) 10 (omega arith)) (omega arith)
    go false _ false _ false _ false _ h = absurd (omega arith)

-- ---- numbers

-- one digit more behind digits
pub value_last : (base n : ℕ) (ds : List ℕ) (b : ℕ) → value base n (ds ++ (b ∷ [])) ≡ value base n ds * base + worth b
unfolding value
value_last base n [] b = refl
value_last base n (d ∷ ds) b = value_last base (n * base + worth d) ds b

module _ (base : ℕ) (some : 0 < base) (small : base ≤ 16) where
  -- a number that has no more than k digits is worth itself when they are read
  pub value-digits : (k n : ℕ) → n < base ^ k → value base 0 (digits base k n) ≡ n
  unfolding value digits
  value-digits zero n h = omega (arith, pow-zero base)
  value-digits (suc k) n h =
      let fewer : n / base < base ^ k = (div-lt_iff_lt-mul some).1 (subst (λ (x : ℕ). n < x) (pow-suc base k) h) in
      value_last base 0 (digits base k (n / base)) (digit (n % base))
      ∙ ap₂ (λ (q r : ℕ). q * base + r) (value-digits k (n / base) fewer) (worth-digit (n % base) (lt_of_lt_of_le (mod-lt n some) small))
      ∙ div-add-mod' n base
