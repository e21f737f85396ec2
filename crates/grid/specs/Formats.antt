-- The target format and the few numbers that follow from its settings (document 01, "The target format"). Of this
-- crate's definitions only this file and Candidates.antt look at p and emax: what comes after goes by the names of this one.
-- Magnitudes are in units of 2^-1074. Exponents are counted from there too: document 01's e is written e + 1074, so that
-- emin = 1 - emax is 1075 - emax (decision 1). Assumes nothing.
use Rattle.std.specs.Prelude.{Bool, cond, not, ◌&&◌, ℕ, ◌+◌, ◌-◌, ◌*◌, ◌^◌, ◌≤◌, leb, ltb}
use Rattle.std.specs.Float.Ieee.{size}
use Rattle.patterns.specs.Patterns.{pat}
use Rattle.grid.specs.declared.Format.{Format}

-- n is from least to most
unfoldable pub between : ℕ → ℕ → ℕ → Bool
between least n most = leb least n && leb n most

-- p runs from 2 to 53
unfoldable pub precision_fits : ℕ → Bool
precision_fits p = between 2 p 53

-- emax runs from 1 to 1023
unfoldable pub exponent_fits : ℕ → Bool
exponent_fits emax = between 1 emax 1023

-- a format is one of ours where p and emax fit
unfoldable pub in_range : Format → Bool
in_range f = precision_fits f.p && exponent_fits f.emax

-- the first refusal that applies to p and emax, 1 for p, then 2 for emax; and 0 where none does (document 01, "Refusal numbers")
abbrev pub range_refusal : Format → ℕ
range_refusal f = cond (not (precision_fits f.p)) 1 (cond (not (exponent_fits f.emax)) 2 0)

-- in range, as the four bounds that a law may lean on
pub record InRange (f : Format) : Type 0 where
  pub p_least : 2 ≤ f.p
  pub p_most : f.p ≤ 53
  pub emax_least : 1 ≤ f.emax
  pub emax_most : f.emax ≤ 1023

-- emin = 1 - emax, the smallest normal exponent
unfoldable pub emin : Format → ℕ
emin f = 1075 - f.emax

-- the smallest normal number
unfoldable pub smallest_normal : Format → ℕ
smallest_normal f = 2 ^ emin f

-- the exponent of zeta: emin - p + 1 with subnormals, emin without
unfoldable pub zeta_exp : Format → ℕ
zeta_exp f = cond f.sub (emin f + 1 - f.p) (emin f)

-- zeta, the smallest positive number
unfoldable pub zeta : Format → ℕ
zeta f = 2 ^ zeta_exp f

-- emax + 1, the exponent of T: a magnitude below T has at most this many digits
unfoldable pub etop : Format → ℕ
etop f = 1075 + f.emax

-- xmax, the largest finite number, 2^emax · (2 - 2^(1-p)): p ones, the first of them just below T
unfoldable pub xmax : Format → ℕ
xmax f = (2 ^ f.p - 1) * 2 ^ (etop f - f.p)

-- T, the number that would follow xmax if the exponents went on
unfoldable pub T : Format → ℕ
T f = 2 ^ etop f

-- The exponent of the step from one neighbour to the next, by the magnitude's count s of digits. A magnitude reaches the
-- smallest normal number where s is above emin: there p digits are kept. Below that the step is zeta throughout (decision 5).
unfoldable pub step_exp : Format → ℕ → ℕ
step_exp f s = cond (ltb (emin f) s) (s - f.p) (zeta_exp f)

-- the step at a magnitude: document 01's G
unfoldable pub step : Format → ℕ → ℕ
step f a = 2 ^ step_exp f (size a)

-- the pattern of a magnitude that belongs to a format, and 0 where the format is out of range and has none (decision 7)
unfoldable pub pattern_in : Format → ℕ → ℕ
pattern_in f n = cond (in_range f) (pat n) 0

-- and an exponent in the same way
unfoldable pub exponent_in : Format → ℕ → ℕ
exponent_in f e = cond (in_range f) e 0
