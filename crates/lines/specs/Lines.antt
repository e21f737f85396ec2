-- A line: a key, its value and a line feed (document 01, "The job text"). A key is meant with its equals sign. Assumes nothing.
use Rattle.std.specs.Prelude.{Bool, cond, ◌&&◌, List, [], ◌∷◌, ◌++◌, ℕ, ◌^◌, leb, ltb, length, Option, Some, None}
use Rattle.lines.specs.declared.Form.{Form}
use Rattle.lines.specs.declared.Form.TheVariants.{Number, Word}
use Rattle.lines.specs.Numerals.{digits, decimals}

-- the byte that ends a line
abbrev pub line_feed : ℕ
line_feed = 10

-- a value's base, and how many digits it is written with: a number has no zero in front, and a word has sixteen digits
abbrev pub base : Form → ℕ
base (Number most) = 10
base Word = 16

abbrev pub width : Form → ℕ → ℕ
width (Number most) n = decimals n
width Word n = 16

-- whether a value is of the form: a number no larger than is said, of four digits at most; a word of 64 bits
unfoldable pub fits : Form → ℕ → Bool
fits (Number most) n = leb n most && ltb n (10 ^ 4)
fits Word n = ltb n (16 ^ 16)

-- the line: its key, the value's digits and the line feed
unfoldable pub line : List ℕ → Form → ℕ → List ℕ
line key form n = key ++ (digits (base form) (width form n) n ++ (line_feed ∷ []))

-- how many bytes of a buffer it takes: all of its own, or none where the buffer is shorter
unfoldable pub taken : List ℕ → List ℕ → Option ℕ
taken l out = cond (leb (length l) (length out)) (Some (length l)) None
