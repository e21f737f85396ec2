-- Different refusals have different numbers, and none has 0: so what is answered by number tells what a call came to.
-- Assumes nothing.
use mathlib.Core.Path.{◌≡◌, refl, sym, ap, ◌∙◌}
use Rattle.std.specs.Prelude.{Result, Ok, Err, cond, ℕ, eqb}
use Rattle.std.proofs.Common.{arith}
use Rattle.refusals.specs.declared.Refusal.{Refusal}
use Rattle.refusals.specs.declared.Refusal.TheVariants.{Precision, Exponent, Mode, RandomBits, OutputLength, WordsLength, NoCode, NotInFormat, CodeTooLarge, NoNumber, UnknownFormat, JobText}
use Rattle.refusals.specs.Refusals.{number_of, in_numbers, refusal_number}

-- the refusal with a number
abbrev named : ℕ → Refusal
named n =
    cond (eqb n 1) Precision
    (cond (eqb n 2) Exponent
    (cond (eqb n 3) Mode
    (cond (eqb n 4) RandomBits
    (cond (eqb n 5) OutputLength
    (cond (eqb n 6) WordsLength
    (cond (eqb n 7) NoCode
    (cond (eqb n 8) NotInFormat
    (cond (eqb n 9) CodeTooLarge
    (cond (eqb n 10) NoNumber
    (cond (eqb n 11) UnknownFormat JobText))))))))))

named_number : (e : Refusal) → named (number_of e) ≡ e
named_number Precision = refl
named_number Exponent = refl
named_number Mode = refl
named_number RandomBits = refl
named_number OutputLength = refl
named_number WordsLength = refl
named_number NoCode = refl
named_number NotInFormat = refl
named_number CodeTooLarge = refl
named_number NoNumber = refl
named_number UnknownFormat = refl
named_number JobText = refl

pub numbers_apart : (d e : Refusal) → number_of d ≡ number_of e → d ≡ e
numbers_apart d e h = sym (named_number d) ∙ ap named h ∙ named_number e

-- the number 0 is no refusal's
pub number_some : (e : Refusal) → number_of e ≡ 0 → ⊥
number_some Precision h = omega (arith, h)
number_some Exponent h = omega (arith, h)
number_some Mode h = omega (arith, h)
number_some RandomBits h = omega (arith, h)
number_some OutputLength h = omega (arith, h)
number_some WordsLength h = omega (arith, h)
number_some NoCode h = omega (arith, h)
number_some NotInFormat h = omega (arith, h)
number_some CodeTooLarge h = omega (arith, h)
number_some NoNumber h = omega (arith, h)
number_some UnknownFormat h = omega (arith, h)
number_some JobText h = omega (arith, h)

-- Two calls that are answered alike by number came to the same, where an answer has a number, which tells whether there is a value,
-- and the value.
module _ {A B : Type 0} (ok : A → B) (refused : ℕ → B) (number : B → ℕ) (value : B → A)
    (ok_number : (y : A) → number (ok y) ≡ 0) (refused_number : (n : ℕ) → number (refused n) ≡ n) (ok_value : (y : A) → value (ok y) ≡ y) where
  pub results_apart : (r s : Result A Refusal) → in_numbers ok refused r ≡ in_numbers ok refused s → r ≡ s
  results_apart (Ok y) (Ok z) h = ap Ok (sym (ok_value y) ∙ ap value h ∙ ok_value z)
  results_apart (Ok y) (Err e) h = absurd (number_some e (sym (refused_number (number_of e)) ∙ sym (ap number h) ∙ ok_number y))
  results_apart (Err d) (Ok z) h = absurd (number_some d (sym (refused_number (number_of d)) ∙ ap number h ∙ ok_number z))
  results_apart (Err d) (Err e) h = ap Err (numbers_apart d e (sym (refused_number (number_of d)) ∙ ap number h ∙ refused_number (number_of e)))

-- what has no value to answer is told by the number alone
pub refusal_numbers_apart : (r s : Result Unit Refusal) → refusal_number r ≡ refusal_number s → r ≡ s
refusal_numbers_apart = results_apart (λ y. 0) (λ n. n) (λ n. n) (λ n. tt) (λ y. refl) (λ n. refl) (λ y. refl)
