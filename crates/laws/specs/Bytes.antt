-- A number as bytes: its digits to the base 256. Assumes nothing.
use Rattle.std.specs.Prelude.{ℕ, ◌/◌, ◌%◌, ◌^◌}

-- byte k of a number, counted from the low one
unfoldable pub byte_of : ℕ → ℕ → ℕ
byte_of w k = w / 256 ^ k % 256
