-- What a format holds: the magnitudes among which lo and hi are found, 0 and T with them (document 01, "The target format"
-- and "Rounding one pattern"), as a property of a number. Units of 2^-1074, and exponents counted from there, as in
-- Formats.antt. Assumes nothing.
use Rattle.std.specs.Prelude.{true, ◌≡◌, ℕ, ◌+◌, ◌-◌, ◌*◌, ◌^◌, ◌≤◌, ◌<◌}
use Rattle.grid.specs.declared.Format.{Format}
use Rattle.grid.specs.Formats.{emin, etop, T}

-- a normal number: m · 2^(e - p + 1), with exactly p digits in m and e from emin to emax
pub record Normal (f : Format) (c : ℕ) : Type 0 where
  pub m : ℕ
  pub e : ℕ
  pub full : 2 ^ (f.p - 1) ≤ m
  pub fits : m < 2 ^ f.p
  pub not_below : emin f ≤ e
  pub not_above : e < etop f
  pub is : c ≡ m * 2 ^ (e + 1 - f.p)

-- a subnormal number, where the format keeps them: fewer digits in m, at e = emin
pub record Subnormal (f : Format) (c : ℕ) : Type 0 where
  pub kept : f.sub ≡ true
  pub m : ℕ
  pub positive : 0 < m
  pub fits : m < 2 ^ (f.p - 1)
  pub is : c ≡ m * 2 ^ (emin f + 1 - f.p)

-- a candidate is 0, a number of the format, or T
pub data Candidate (f : Format) (c : ℕ) : Type 0 where
  nothing : c ≡ 0 → Candidate f c
  normal : Normal f c → Candidate f c
  subnormal : Subnormal f c → Candidate f c
  top : c ≡ T f → Candidate f c
