-- The pattern that a rounding answers (document 01, "Rounding one pattern"). Magnitudes are in units of 2^-1074.
-- Assumes nothing.
use Rattle.std.specs.Prelude.{ℕ}
use Rattle.patterns.specs.declared.Kind.{Kind}
use Rattle.patterns.specs.declared.Kind.TheVariants.{Zero, Finite, Infinity, NaN}
use Rattle.patterns.specs.Patterns.{sign, mag, with_sign, kind_of, val}
use Rattle.grid.specs.declared.Format.{Format}
use Rattle.magnitudes.specs.declared.Mode.{Mode}
use Rattle.magnitudes.specs.Destinations.{goes_to}

-- The answer to a pattern x, by what it is. A zero, an infinity or a NaN is its own answer, whatever the mode. Any other number
-- is answered by the magnitude m that its own goes to, with its sign; an m of zero gets the sign too.
unfoldable pub answer_to : Kind → ℕ → ℕ → ℕ
answer_to Zero x m = x
answer_to Finite x m = with_sign x m
answer_to Infinity x m = x
answer_to NaN x m = x

-- the rounded pattern, for every 64-bit input
unfoldable pub rounded : Format → Mode → ℕ → ℕ → ℕ
rounded f mode word x = answer_to (kind_of x) x (goes_to f mode (sign x) word (val (mag x)))
