-- What is refused before a code or a pattern is looked at, by number and in order (document 01, "Refusal numbers").
-- Assumes nothing.
use Rattle.std.specs.Prelude.{cond, not, ℕ}
use Rattle.grid.specs.declared.Format.{Format}
use Rattle.grid.specs.Formats.{precision_fits, exponent_fits}
use Rattle.layouts.specs.Fields.{has_code}

-- the first refusal that applies: 1 for p, 2 for emax, 7 for a format without a code; and 0 where none does
unfoldable pub format_refusal : Format → ℕ
format_refusal f =
    cond (not (precision_fits f.p)) 1
    (cond (not (exponent_fits f.emax)) 2
    (cond (not (has_code f)) 7 0))
