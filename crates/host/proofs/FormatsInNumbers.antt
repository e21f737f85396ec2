-- A known format in numbers, as the code comes to it. Assumes nothing.
use mathlib.Core.Bool.{Bool, true, false, cond}
use mathlib.Core.Path.{◌≡◌, refl, ap}
use Prim.Native.Nat.{ℕ}
use mir.Val.{bool_byte}
use Rattle.grid.specs.declared.Format.{Format}
use Rattle.known.specs.Table.{with_format}
use Rattle.host.specs.declared.KnownFormat.{KnownFormat}
use Rattle.host.specs.Formats.{in_numbers}

-- a yes or no as a number
flag_number : (b : Bool) → bool_byte b ≡ cond b 1 0
flag_number true = refl
flag_number false = refl

-- a format copied out number by number
pub found-in_numbers : (f : Format)
    → ◌≡◌ {A = KnownFormat} (record { number = 0; p = f.p; emax = f.emax; sub = bool_byte f.sub }) (in_numbers (with_format f))
unfolding in_numbers
found-in_numbers f = ap (λ (s : ℕ). record { number = 0; p = f.p; emax = f.emax; sub = s }) (flag_number f.sub)
