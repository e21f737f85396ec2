-- The bits of a format's own code (document 01, "Codes"): which formats have one, how wide it is, and its three fields.
-- Assumes nothing.
use Rattle.std.specs.Prelude.{Bool, ◌≡◌, ℕ, ◌+◌, ◌-◌, ◌/◌, ◌%◌, ◌^◌, eqb}
use Rattle.std.specs.Float.Ieee.{size}
use Rattle.grid.specs.declared.Format.{Format}
use Rattle.grid.specs.Formats.{InRange}

-- be, how many bits the exponent field has: as many as emax + 1 has digits
unfoldable pub be : Format → ℕ
be f = size (f.emax + 1)

-- a format has a code where emax + 1 is a power of two, 2^(be - 1)
unfoldable pub has_code : Format → Bool
has_code f = eqb (f.emax + 1) (2 ^ (be f - 1))

-- all that is asked of a format, as what a law may lean on: the settings are in range, and emax + 1 is some power of two
pub record HasCode (f : Format) : Type 0 where
  pub range : InRange f
  pub digits : ℕ
  pub power : f.emax + 1 ≡ 2 ^ digits

-- k, how many bits a code has: a sign, be exponent bits, and p - 1 fraction bits
unfoldable pub width : Format → ℕ
width f = be f + f.p

-- the sign, the first of the k bits: set in a negative number
unfoldable pub negative : Format → ℕ → Bool
negative f c = eqb (c / 2 ^ (width f - 1) % 2) 1

-- the exponent field, the next be bits
unfoldable pub exponent : Format → ℕ → ℕ
exponent f c = c / 2 ^ (f.p - 1) % 2 ^ be f

-- the fraction, the last p - 1 bits
unfoldable pub fraction : Format → ℕ → ℕ
fraction f c = c % 2 ^ (f.p - 1)

-- the bias, by which the exponent field is above the exponent
unfoldable pub bias : Format → ℕ
bias f = f.emax

-- an exponent field of ones only: it is no number's
unfoldable pub ones : Format → ℕ
ones f = 2 ^ be f - 1
