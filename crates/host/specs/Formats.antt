-- A format as C has it, three numbers (document 01, "Refusal numbers": where sub comes from C). Assumes nothing.
use Rattle.std.specs.Prelude.{Result, cond, not, ℕ, eqb}
use Rattle.grid.specs.declared.Format.{Format}
use Rattle.refusals.specs.declared.Refusal.{Refusal}
use Rattle.refusals.specs.Refusals as refusals
use Rattle.known.specs.Table.{Lookup, with_format, refused}
use Rattle.host.specs.declared.KnownFormat.{KnownFormat}

-- the format that three numbers stand for: of sub, 0 is off and every other number on
unfoldable pub format_from : ℕ → ℕ → ℕ → Format
format_from p emax sub = record { p = p; emax = emax; sub = not (eqb sub 0) }

-- a format that was looked up, or the refusal, in numbers: sub is 1 where it is on, and 0 where it is off
unfoldable pub in_numbers : Lookup → KnownFormat
in_numbers l = record { number = l.number; p = l.format.p; emax = l.format.emax; sub = cond l.format.sub 1 0 }

-- what a lookup came to, by number
abbrev pub by_number : Result Format Refusal → Lookup
by_number = refusals.in_numbers with_format refused
