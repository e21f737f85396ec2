-- The two forms of a value: their bases, how many digits a value of the form takes, and which values are of it. Assumes nothing.
use mathlib.Core.Bool.{Bool, true, false, cond, ◌&&◌}
use mathlib.Core.Path.{◌≡◌, refl, ap, ap₂}
use Prim.Native.Nat.{ℕ, ◌^◌, ◌≤◌, ◌<◌}
use native.Mathlib.Nat.{le_refl}
use native.Mathlib.Omega.{arith}
use lib.Dec.{leb, ltb, leb-zero}
use borrow.Author.Tests.{leb-true, ltb-true, le-leb, lt-ltb}
use Rattle.laws.proofs.Tests.{and_left, and_right}
use Rattle.lines.specs.declared.Form.{Form}
use Rattle.lines.specs.declared.Form.TheVariants.{Number, Word}
use Rattle.lines.specs.Numerals.{decimals}
use Rattle.lines.specs.Lines.{base, width, fits}
use Rattle.lines.specs.Reading.{longest}

-- a base is some, and no larger than there are digits for
pub base_some : (form : Form) → 0 < base form
base_some (Number most) = omega arith
base_some Word = omega arith

pub base_small : (form : Form) → base form ≤ 16
base_small (Number most) = omega arith
base_small Word = omega arith

-- a decimal number takes four digits at most
pub decimals-most : (n : ℕ) → decimals n ≤ 4
unfolding decimals
decimals-most n = go (ltb n 10) (ltb n 100) (ltb n 1000)
  where
    go : (ones tens hundreds : Bool) → cond ones 1 (cond tens 2 (cond hundreds 3 4)) ≤ 4
    go true _ _ = omega arith
    go false true _ = omega arith
    go false false true = omega arith
    go false false false = omega arith

-- and a digit one
pub decimals-one : (n : ℕ) → n < 10 → decimals n ≡ 1
unfolding decimals
decimals-one n low = simp (lt-ltb n 10 low)

-- they hold it
decimals_hold : (n : ℕ) → n < 10 ^ 4 → n < 10 ^ decimals n
unfolding decimals
decimals_hold n small = go (ltb n 10) refl (ltb n 100) refl (ltb n 1000) refl
  where
    go :
        (ones : Bool) → ltb n 10 ≡ ones → (tens : Bool) → ltb n 100 ≡ tens → (hundreds : Bool) → ltb n 1000 ≡ hundreds
        → n < 10 ^ cond ones 1 (cond tens 2 (cond hundreds 3 4))
    go true e _ _ _ _ = ltb-true n 10 e
    go false _ true e _ _ = ltb-true n 100 e
    go false _ false _ true e = ltb-true n 1000 e
    go false _ false _ false _ = small

-- no value is written with more digits than are read
pub width-most : (form : Form) (n : ℕ) → width form n ≤ longest form
width-most (Number most) n = decimals-most n
width-most Word n = le_refl 16

-- and a value of the form has no more digits than it is written with
pub width-holds : (form : Form) (n : ℕ) → fits form n ≡ true → n < base form ^ width form n
unfolding fits
width-holds (Number most) n h = decimals_hold n (ltb-true n (10 ^ 4) (and_right (leb n most) (ltb n (10 ^ 4)) h))
width-holds Word n h = ltb-true n (16 ^ 16) h

-- ---- whether a value is of a form

-- a number is where it is no larger than is said, which is below 10000,
pub number_fits : (most n : ℕ) → most ≤ 9999 → n ≤ most → fits (Number most) n ≡ true
unfolding fits
number_fits most n few h =
    let short : n < 10 ^ 4 = omega arith in
    ap₂ ◌&&◌ (le-leb n most h) (lt-ltb n (10 ^ 4) short)

-- and only there
pub fits-number : (most n : ℕ) → fits (Number most) n ≡ true → n ≤ most
unfolding fits
fits-number most n e = leb-true n most (and_left (leb n most) (ltb n (10 ^ 4)) e)

-- a word is where it has 64 bits,
pub word_fits : (n : ℕ) → n < 2 ^ 64 → fits Word n ≡ true
unfolding fits
word_fits n h = lt-ltb n (2 ^ 64) h

-- and only there
pub fits_word : (n : ℕ) → fits Word n ≡ true → n < 2 ^ 64
unfolding fits
fits_word n e = ltb-true n (2 ^ 64) e

-- 0 is of every form
pub fits-zero : (form : Form) → fits form 0 ≡ true
unfolding fits
fits-zero (Number most) = ap (λ (t : Bool). t && true) (leb-zero most)
fits-zero Word = refl
