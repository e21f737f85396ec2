-- The choice between lo and hi as a sum: hi is taken exactly where the rest and the mode's increment together reach the
-- step D. That this is the table's choice, for every mode, is the law `choice_by_increment`. Assumes nothing.
use Rattle.std.specs.Prelude.{Bool, not, cond, ℕ, ◌+◌, ◌-◌, ◌*◌, ◌/◌, ◌%◌, ◌^◌}
use Rattle.magnitudes.specs.declared.Mode.{Mode}
use Rattle.magnitudes.specs.declared.Mode.TheVariants.{TiesToEven, TiesToZero, TiesAway, TowardZero, TowardPlus, TowardMinus, ToOdd, Stochastic, EvenChance}
use Rattle.magnitudes.specs.Modes.{odd, u}

-- the increment by the sign, lo's m, the step D and the word; each is below D, so an exact input is never moved
unfoldable pub increment : Mode → Bool → ℕ → ℕ → ℕ → ℕ
increment TiesToEven negative m D word = ((D - 1) / 2 + m % 2) % D
increment TiesToZero negative m D word = (D - 1) / 2
increment TiesAway negative m D word = D / 2
increment TowardZero negative m D word = 0
increment TowardPlus negative m D word = cond (not negative) (D - 1) 0
increment TowardMinus negative m D word = cond negative (D - 1) 0
increment ToOdd negative m D word = (D - 1 + m % 2) % D
increment (Stochastic r) negative m D word = u r word * D / 2 ^ r
increment EvenChance negative m D word = cond (odd word) (D - 1) 0
