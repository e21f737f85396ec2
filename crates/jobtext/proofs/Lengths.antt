-- How long the lines of an answer are. Assumes nothing.
use mathlib.Core.List.{List, [], ◌∷◌, ◌++◌}
use mathlib.Core.Path.{◌≡◌, refl, ◌∙◌}
use Prim.Native.Nat.{ℕ, ◌+◌, ◌*◌, ◌≤◌}
use native.Mathlib.Omega.{arith}
use lib.ListN.{length, length-append}
use Rattle.lines.specs.declared.Form.TheVariants.{Number, Word}
use Rattle.lines.specs.Numerals.{decimals}
use Rattle.lines.proofs.Lengths.{length-line, number-line_short}
use Rattle.jobtext.specs.Answers.{status_key, count_key, place_key, pattern_key, status_line, count_line, place_line, pattern_line, pattern_lines, accepted, refused}

pub status_length : (number : ℕ) → length (status_line number) ≤ 12
status_length number = number-line_short status_key 9999 number

-- status 0 has one digit
pub accepted_status_length : length (status_line 0) ≡ 9
unfolding decimals
accepted_status_length = length-line status_key (Number 9999) 0

pub count_length : (n : ℕ) → length (count_line n) ≤ 7
count_length n = number-line_short count_key 9999 n

pub place-length : (place : ℕ) → length (place_line place) ≤ 8
place-length place = number-line_short place_key 9999 place

pub pattern_length : (y : ℕ) → length (pattern_line y) ≡ 19
pattern_length y = length-line pattern_key Word y

patterns_length : (ys : List ℕ) → length (pattern_lines ys) ≡ 19 * length ys
unfolding pattern_lines
patterns_length [] = refl
patterns_length (y ∷ ys) =
    length-append (pattern_line y) (pattern_lines ys) ∙ omega (arith, pattern_length y, patterns_length ys)

-- the three parts of the answer to a job
pub heads_short : (n : ℕ) (ys : List ℕ) → length (status_line 0 ++ (count_line n ++ pattern_lines ys)) ≤ 16 + 19 * length ys
heads_short n ys =
    omega (
      arith,
      length-append (status_line 0) (count_line n ++ pattern_lines ys),
      length-append (count_line n) (pattern_lines ys),
      accepted_status_length,
      count_length n,
      patterns_length ys,
    )

-- are short by its patterns,
pub accepted_short : (ys : List ℕ) → length (accepted ys) ≤ 16 + 19 * length ys
unfolding accepted
accepted_short ys = heads_short (length ys) ys

-- and so is a refusal
pub refused_short : (number place : ℕ) → length (refused number place) ≤ 20
unfolding refused
refused_short number place =
    omega (arith, length-append (status_line number) (place_line place), status_length number, place-length place)
