-- Binary64 patterns: what a 64-bit number says when it is read by IEEE 754-2019 (document 01, "What the product covers").
-- The unit is 2^-1074, the smallest positive binary64 number: every finite magnitude is a whole number of units, and 1 is
-- 2^1074 of them (decision 1). Assumes nothing.
use Rattle.std.specs.Prelude.{Bool, cond, ◌≡◌, ℕ, zero, suc, ◌+◌, ◌-◌, ◌*◌, ◌/◌, ◌%◌, ◌^◌, ◌<◌, min, leb, ltb, eqb}
use Rattle.std.specs.Float.Ieee.{size}
use Rattle.patterns.specs.declared.Kind.{Kind}
use Rattle.patterns.specs.declared.Kind.TheVariants.{Zero, Finite, Infinity, NaN}

-- the sign is the top bit: set in a negative number
unfoldable pub sign : ℕ → Bool
sign x = leb (2 ^ 63) x

-- the magnitude pattern is what is left without the sign: eleven exponent bits, then 52 fraction bits
unfoldable pub mag : ℕ → ℕ
mag x = x % 2 ^ 63

-- a magnitude with the sign of x: the sign bit of x, and all bits but the sign's of m
unfoldable pub with_sign : ℕ → ℕ → ℕ
with_sign x m = cond (sign x) (2 ^ 63 + mag m) (mag m)

-- the magnitude pattern of infinity: every exponent bit set and no fraction bit
abbrev pub infinity : ℕ
infinity = 2047 * 2 ^ 52

-- that of the NaN with no fraction bit but the top one
abbrev pub quiet_nan : ℕ
quiet_nan = infinity + 2 ^ 51

-- What a pattern is, whatever its sign: zero where no bit but the sign is set, finite and not zero below infinity's pattern,
-- infinity at it, and NaN above (decision 9).
unfoldable pub kind_of : ℕ → Kind
kind_of x = cond (eqb (mag x) 0) Zero (cond (ltb (mag x) infinity) Finite (cond (eqb (mag x) infinity) Infinity NaN))

-- What the two fields are worth together, in units. At exponent field 0 the fraction counts as it stands. Otherwise a one
-- stands in front of it, and each step of the field doubles the whole.
unfoldable pub worth : ℕ → ℕ → ℕ
worth zero fraction = fraction
worth (suc e) fraction = (2 ^ 52 + fraction) * 2 ^ e

-- the value of a magnitude pattern, in units
unfoldable pub val : ℕ → ℕ
val m = worth (m / 2 ^ 52) (m % 2 ^ 52)

-- The same value as one product, sig · 2^ex, with no case for small numbers: the subtraction stops at 0, so where the field
-- is 0 or 1 the exponent is 0 and the significand is the pattern. The law `val_product` joins the two readings (decision 2).
abbrev pub ex : ℕ → ℕ
ex m = m / 2 ^ 52 - 1

abbrev pub sig : ℕ → ℕ
sig m = m - ex m * 2 ^ 52

-- how many binary digits the value has, 0 for 0 (decision 3)
unfoldable pub digits_of : ℕ → ℕ
digits_of m = size (val m)

-- a magnitude that binary64 could hold if its exponents never ended: at most 53 digits, and zeros behind them
pub record Short (n : ℕ) : Type 0 where
  pub m : ℕ
  pub place : ℕ
  pub fits : m < 2 ^ 53
  pub is : n ≡ m * 2 ^ place

-- a magnitude that a finite binary64 number has: short, and below 2^1024
pub record Binary64 (n : ℕ) : Type 0 where
  pub short : Short n
  pub below : n < 2 ^ (1074 + 1024)

-- The magnitude pattern of n units: the first 53 digits are kept, and the rest are counted by the exponent and dropped. That
-- nothing is lost of a short n, and that 2^1024 gets infinity's pattern, are the laws `val-pat` and `pat-infinity`
-- (decision 4).
unfoldable pub pat : ℕ → ℕ
pat n = (size n - 53) * 2 ^ 52 + n / 2 ^ (size n - 53)

-- the magnitude pattern of 2^k units: infinity's from 2^1024 on (decision 8)
unfoldable pub power_pattern : ℕ → ℕ
power_pattern k = pat (2 ^ min k (1074 + 1024))
