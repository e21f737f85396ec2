-- The answers of packing and unpacking by number (document 01, "Refusal numbers"). Assumes nothing.
use Rattle.std.specs.Prelude.{ℕ}

-- the answer of packing: number 0 and a code, or the refusal's number and code 0
pub record Packed : Type 0 where
  pub number : ℕ
  pub code : ℕ

abbrev pub as_code : ℕ → Packed
as_code c = record { number = 0; code = c }

abbrev pub no_code : ℕ → Packed
no_code number = record { number = number; code = 0 }

-- the answer of unpacking: number 0 and a pattern, or the refusal's number and pattern 0
pub record Unpacked : Type 0 where
  pub number : ℕ
  pub pattern : ℕ

abbrev pub as_pattern : ℕ → Unpacked
as_pattern x = record { number = 0; pattern = x }

abbrev pub no_pattern : ℕ → Unpacked
no_pattern number = record { number = number; pattern = 0 }
