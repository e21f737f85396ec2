-- The known formats (document 01, "The target format" and "Refusal numbers"). Assumes nothing.
use Rattle.std.specs.Prelude.{true, false, cond, List, [], ◌∷◌, ℕ, ltb, length, get_or}
use Rattle.grid.specs.declared.Format.{Format}

-- a format by its precision and its largest exponent, with subnormals
abbrev pub with_subnormals : ℕ → ℕ → Format
with_subnormals p emax = record { p = p; emax = emax; sub = true }

-- the table, a format a line by its number
abbrev pub formats : List Format
formats =
    with_subnormals 11 15  -- 0: binary16
    ∷ with_subnormals 8 127  -- 1: bfloat16
    ∷ with_subnormals 11 127  -- 2: TensorFloat-32
    ∷ with_subnormals 24 127  -- 3: binary32
    ∷ with_subnormals 53 1023  -- 4: binary64
    ∷ with_subnormals 3 15  -- 5: E5M2, by IEEE's rules
    ∷ []

-- what stands in where there is no format
abbrev pub none : Format
none = record { p = 0; emax = 0; sub = false }

-- the answer of a lookup: a number, and a format
pub record Lookup : Type 0 where
  pub number : ℕ
  pub format : Format

-- number 0 and a format, or the refusal's number and no format
abbrev pub with_format : Format → Lookup
with_format f = record { number = 0; format = f }

abbrev pub refused : ℕ → Lookup
refused number = record { number = number; format = none }

-- what a lookup answers up to the table's end
abbrev pub found : ℕ → Lookup
found n = with_format (get_or formats n none)

-- the format with the number; and above the table's end refusal 11
unfoldable pub lookup : ℕ → Lookup
lookup n = cond (ltb n (length formats)) (found n) (refused 11)
