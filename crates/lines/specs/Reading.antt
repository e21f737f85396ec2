-- How a line is read: what the code does, byte after byte. That it finds a line exactly where there is one is said by the facts
-- `written_is_read` and `read_is_written`. Assumes nothing.
use Rattle.std.specs.Prelude.{Bool, true, false, cond, ◌&&◌, List, [], ◌∷◌, Option, Some, None, ℕ, zero, suc, ◌+◌, ◌-◌, ◌*◌, ltb, eqb, length, get_or, take, drop}
use Rattle.lines.specs.declared.Form.{Form}
use Rattle.lines.specs.declared.Form.TheVariants.{Number, Word}
use Rattle.lines.specs.declared.Found.{Found}
use Rattle.lines.specs.Lines.{line_feed, base, width, fits}

-- what a byte is worth as a digit; 16, more than any digit, where it is none
unfoldable pub worth : ℕ → ℕ
worth b = cond (ltb b 48) 16 (cond (ltb b 58) (b - 48) (cond (ltb b 65) 16 (cond (ltb b 71) (b - 55) 16)))

-- the digit in the base that a byte is, if it is one
unfoldable pub digit_in : ℕ → ℕ → Option ℕ
digit_in base b = cond (ltb (worth b) base) (Some (worth b)) None

-- how many digits in the base the text begins with, of which no more than `most` are counted
unfoldable pub run : ℕ → ℕ → List ℕ → ℕ
run base zero s = 0
run base (suc most) [] = 0
run base (suc most) (b ∷ s) = cond (ltb (worth b) base) (suc (run base most s)) 0

-- what digits are worth that come behind the number n
unfoldable pub value : ℕ → ℕ → List ℕ → ℕ
value base n [] = n
value base n (b ∷ s) = value base (n * base + worth b) s

-- how many digits of a value are read at most
abbrev pub longest : Form → ℕ
longest (Number most) = 4
longest Word = 16

-- the text begins with the key
unfoldable pub begins : List ℕ → List ℕ → Bool
begins [] s = true
begins (b ∷ key) [] = false
begins (b ∷ key) (c ∷ s) = eqb b c && begins key s

-- the digits that the text begins with, as a value of the form
unfoldable pub digits_read : Form → List ℕ → ℕ
digits_read form s = run (base form) (longest form) s

unfoldable pub value_read : Form → List ℕ → ℕ
value_read form s = value (base form) 0 (take (digits_read form s) s)

-- a line that is found: its value, and how many bytes it takes
abbrev pub found : ℕ → ℕ → Found
found n used = record { value = n; used = used }

-- The value that the text begins with, and how many bytes it takes with its line feed: as many digits as the value is written
-- with, a value of the form, and the line feed behind it.
unfoldable pub read_value : Form → List ℕ → Option Found
read_value form s =
    cond (eqb (digits_read form s) (width form (value_read form s)) && (fits form (value_read form s) && eqb (get_or s (digits_read form s) 0) line_feed))
    (Some (found (value_read form s) (digits_read form s + 1)))
    None

-- what is found behind a key of so many bytes
unfoldable pub behind : ℕ → Option Found → Option Found
behind key (Some f) = Some (found f.value (key + f.used))
behind key None = None

-- the line that the text begins with
unfoldable pub read_line : List ℕ → Form → List ℕ → Option Found
read_line key form s = cond (begins key s) (behind (length key) (read_value form (drop (length key) s))) None
