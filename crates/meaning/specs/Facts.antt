-- What the facts about a single answer are stated with. Units of 2^-1074. Assumes nothing.
use Rattle.std.specs.Prelude.{◌≡◌, ℕ, ◌+◌, ◌-◌, ◌%◌, ◌≤◌}
use Rattle.grid.specs.declared.Format.{Format}
use Rattle.grid.specs.Candidates.{Candidate}
use Rattle.magnitudes.specs.declared.Mode.{Mode}
use Rattle.magnitudes.specs.declared.Mode.TheVariants.{TiesToEven, TiesToZero, TiesAway, Stochastic, EvenChance}
use Rattle.magnitudes.specs.Modes.{u}

-- two words are alike to a mode: mode 7 looks at the last r bits, mode 8 at the last one, and no other mode at any
pub record Alike (mode : Mode) (v w : ℕ) : Type 0 where
  pub random : (r : ℕ) → mode ≡ Stochastic r → u r v ≡ u r w
  pub last : mode ≡ EvenChance → v % 2 ≡ w % 2

-- a mode rounds to nearest
pub data ToNearest (mode : Mode) : Type 0 where
  ties_to_even : mode ≡ TiesToEven → ToNearest mode
  ties_to_zero : mode ≡ TiesToZero → ToNearest mode
  ties_away : mode ≡ TiesAway → ToNearest mode

-- how far two numbers are apart: one of the two differences is 0
abbrev pub distance : ℕ → ℕ → ℕ
distance m n = (m - n) + (n - m)

-- c is a candidate, T among them, and no candidate is closer to a
pub record Nearest (f : Format) (a c : ℕ) : Type 0 where
  pub among : Candidate f c
  pub closest : (d : ℕ) → Candidate f d → distance a c ≤ distance a d
