-- How long a number's digits and a line are. Assumes nothing.
use mathlib.Core.List.{List, [], ◌∷◌, ◌++◌}
use mathlib.Core.Path.{◌≡◌, refl, ap, ◌∙◌}
use Prim.Native.Nat.{ℕ, zero, suc, ◌+◌, ◌/◌, ◌%◌, ◌≤◌}
use native.Mathlib.Omega.{arith}
use lib.ListN.{length, length-append}
use Rattle.lines.specs.declared.Form.{Form}
use Rattle.lines.specs.declared.Form.TheVariants.{Number}
use Rattle.lines.specs.Numerals.{digit, digits}
use Rattle.lines.specs.Lines.{line_feed, base, width, line}
use Rattle.lines.proofs.Forms.{decimals-most}

-- k digits are k bytes
pub length_digits : (base k n : ℕ) → length (digits base k n) ≡ k
unfolding digits
length_digits base zero n = refl
length_digits base (suc k) n =
    length-append (digits base k (n / base)) (digit (n % base) ∷ []) ∙ omega (arith, length_digits base k (n / base))

-- a line is its key, the value's digits and the line feed
pub length-line : (key : List ℕ) (form : Form) (n : ℕ) → length (line key form n) ≡ length key + (width form n + 1)
unfolding line
length-line key form n =
    let ds = digits (base form) (width form n) n in
    length-append key (ds ++ (line_feed ∷ []))
    ∙ ap (λ (k : ℕ). length key + k) (length-append ds (line_feed ∷ []) ∙ ap (λ (k : ℕ). k + 1) (length_digits (base form) (width form n) n))

-- which is short where the value is a decimal number
pub number-line_short : (key : List ℕ) (most n : ℕ) → length (line key (Number most) n) ≤ length key + 5
number-line_short key most n = omega (arith, length-line key (Number most) n, decimals-most n)
