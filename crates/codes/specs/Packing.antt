-- The code of a binary64 pattern, by its value (document 01, "Codes"). Magnitudes are in units of 2^-1074. Assumes nothing.
use Rattle.std.specs.Prelude.{Bool, true, cond, ℕ, suc, ◌+◌, ◌-◌, ◌*◌, ◌/◌, ◌^◌}
use Rattle.std.specs.Float.Ieee.{size}
use Rattle.patterns.specs.declared.Kind.{Kind}
use Rattle.patterns.specs.declared.Kind.TheVariants.{Zero, Finite, Infinity, NaN}
use Rattle.patterns.specs.Patterns.{sign, mag, kind_of, val}
use Rattle.grid.specs.declared.Format.{Format}
use Rattle.grid.specs.Formats.{emin, step}
use Rattle.grid.specs.Neighbours.{held}
use Rattle.layouts.specs.Fields.{width, ones}

-- The exponent and fraction fields, as one number, of a magnitude that the format holds. In the normal range a / step is the
-- fraction with a one in front of it, and that one raises the exponent field by one: so the field before it counts from 0 at the
-- smallest normal number. Below that a / step is the fraction alone.
unfoldable pub fields_of : Format → ℕ → ℕ
fields_of f a = (size a - suc (emin f)) * 2 ^ (f.p - 1) + a / step f a

-- infinity has an exponent of ones only and no fraction bit
unfoldable pub infinity_fields : Format → ℕ
infinity_fields f = ones f * 2 ^ (f.p - 1)

-- a NaN has the top fraction bit beside them, and no other
unfoldable pub nan_fields : Format → ℕ
nan_fields f = infinity_fields f + 2 ^ (f.p - 2)

-- the fields by what the pattern is, and by its magnitude a
unfoldable pub fields_by : Format → Kind → ℕ → ℕ
fields_by f Zero a = 0
fields_by f Finite a = fields_of f a
fields_by f Infinity a = infinity_fields f
fields_by f NaN a = nan_fields f

-- the code: those fields below the pattern's sign
unfoldable pub code_of : Format → ℕ → ℕ
code_of f x =
    let n = fields_by f (kind_of x) (val (mag x)) in
    cond (sign x) (2 ^ (width f - 1) + n) n

-- whether the format has what the pattern is: zeros, infinities and NaNs always, and the finite numbers that it holds
unfoldable pub has_by : Format → Kind → ℕ → Bool
has_by f Zero a = true
has_by f Finite a = held f a
has_by f Infinity a = true
has_by f NaN a = true

-- the same of a whole pattern
unfoldable pub in_format : Format → ℕ → Bool
in_format f x = has_by f (kind_of x) (val (mag x))
