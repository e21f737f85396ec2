-- What reading and writing a line are to each other, as whole statements over every key, form and text. Assumes nothing.
use Rattle.std.specs.Prelude.{true, List, Some, ◌++◌, ◌≡◌, ℕ, length, drop}
use Rattle.lines.specs.declared.Form.{Form}
use Rattle.lines.specs.Lines.{fits, line}
use Rattle.lines.specs.Reading.{found, read_line}

-- a line that is written is read, whatever follows it
abbrev pub WrittenIsRead : Type 0
WrittenIsRead = (key : List ℕ) (form : Form) (n : ℕ) (rest : List ℕ) → fits form n ≡ true
    → read_line key form (line key form n ++ rest) ≡ Some (found n (length (line key form n)))

-- a value that is read is of the form,
abbrev pub ReadFits : Type 0
ReadFits = (key : List ℕ) (form : Form) (s : List ℕ) (n used : ℕ) → read_line key form s ≡ Some (found n used) → fits form n ≡ true

-- and the text begins with its line, which takes the bytes that are said
abbrev pub ReadIsWritten : Type 0
ReadIsWritten = (key : List ℕ) (form : Form) (s : List ℕ) (n used : ℕ) → read_line key form s ≡ Some (found n used)
    → (s ≡ line key form n ++ drop used s) × (used ≡ length (line key form n))
