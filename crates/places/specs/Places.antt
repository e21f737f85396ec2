-- A number cut in two at a binary place, counted from 0 at the last digit: what stands from the place on, and what stands
-- below it. lo is found by such a cut (document 01, "Rounding one pattern"). And a number moved up in its word. Assumes nothing.
use Rattle.std.specs.Prelude.{ℕ, ◌*◌, ◌/◌, ◌%◌, ◌^◌}

-- the high part: the digits of n from place d on
unfoldable pub high : ℕ → ℕ → ℕ
high n d = n / 2 ^ d

-- the low part: the d digits of n below place d
unfoldable pub low : ℕ → ℕ → ℕ
low n d = n % 2 ^ d

-- n moved up by d places: of its 64 bits those that pass the top are lost
unfoldable pub moved_up : ℕ → ℕ → ℕ
moved_up n d = n * 2 ^ d % 2 ^ 64
