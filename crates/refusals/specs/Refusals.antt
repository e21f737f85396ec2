-- The refusals of document 01 by number ("Refusal numbers"), and what a call answers by number. Assumes nothing.
use Rattle.std.specs.Prelude.{Result, Ok, Err, ℕ}
use Rattle.refusals.specs.declared.Refusal.{Refusal}
use Rattle.refusals.specs.declared.Refusal.TheVariants.{Precision, Exponent, Mode, RandomBits, OutputLength, WordsLength, NoCode, NotInFormat, CodeTooLarge, NoNumber, UnknownFormat, JobText}

-- a refusal's number; 0 is no refusal's
abbrev pub number_of : Refusal → ℕ
number_of Precision = 1
number_of Exponent = 2
number_of Mode = 3
number_of RandomBits = 4
number_of OutputLength = 5
number_of WordsLength = 6
number_of NoCode = 7
number_of NotInFormat = 8
number_of CodeTooLarge = 9
number_of NoNumber = 10
number_of UnknownFormat = 11
number_of JobText = 12

-- What a call came to, as document 01 has it, by number: `ok` says what is answered with number 0 beside a value, and `refused` what
-- with the number of a refusal.
abbrev pub in_numbers : {A B : Type 0} → (A → B) → (ℕ → B) → Result A Refusal → B
in_numbers ok refused (Ok y) = ok y
in_numbers ok refused (Err e) = refused (number_of e)

-- the number of a call's refusal, and 0 where it has none
abbrev pub refusal_number : {A : Type 0} → Result A Refusal → ℕ
refusal_number = in_numbers (λ y. 0) (λ number. number)
