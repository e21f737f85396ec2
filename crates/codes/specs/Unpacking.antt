-- The binary64 pattern that a code stands for, by the code's fields (document 01, "Codes"). Magnitudes are in units of 2^-1074,
-- and exponents are counted from there. Assumes nothing.
use Rattle.std.specs.Prelude.{Bool, cond, not, ◌&&◌, ℕ, zero, suc, ◌+◌, ◌-◌, ◌*◌, ◌^◌, eqb}
use Rattle.patterns.specs.Patterns.{infinity, quiet_nan, pat}
use Rattle.grid.specs.declared.Format.{Format}
use Rattle.grid.specs.Formats.{emin}
use Rattle.layouts.specs.Fields.{negative, exponent, fraction, bias, ones}

-- What an exponent field and a fraction m are worth together, in units. At exponent field 0 the fraction counts as it stands, in
-- the last place of the smallest normal number. Otherwise a one stands in front of it, and the exponent is the field less the
-- bias.
unfoldable pub worth_in : Format → ℕ → ℕ → ℕ
worth_in f zero m = m * 2 ^ (emin f + 1 - f.p)
worth_in f (suc e) m = (2 ^ (f.p - 1) + m) * 2 ^ (suc e + 1074 - bias f + 1 - f.p)

-- The magnitude pattern that an exponent field e and a fraction m stand for: infinity or NaN where the exponent is all ones, else a
-- number. A NaN's fraction is not kept.
unfoldable pub magnitude_of : Format → ℕ → ℕ → ℕ
magnitude_of f e m = cond (eqb e (ones f)) (cond (eqb m 0) infinity quiet_nan) (pat (worth_in f e m))

-- the pattern: that magnitude with the code's sign
unfoldable pub pattern_of : Format → ℕ → ℕ
pattern_of f c =
    let m = magnitude_of f (exponent f c) (fraction f c) in
    cond (negative f c) (2 ^ 63 + m) m

-- without subnormals a code with exponent field 0 and a fraction is no number
unfoldable pub no_number : Format → ℕ → Bool
no_number f c = not f.sub && (eqb (exponent f c) 0 && not (eqb (fraction f c) 0))
