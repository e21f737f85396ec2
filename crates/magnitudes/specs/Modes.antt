-- The nine modes and their two tables, a line a mode (document 01, "Rounding one pattern"). Assumes nothing.
use Rattle.std.specs.Prelude.{Bool, true, false, not, ◌&&◌, ◌||◌, List, [], ◌∷◌, ◌≡◌, ℕ, ◌+◌, ◌*◌, ◌/◌, ◌%◌, ◌^◌, ◌≤◌, leb, ltb, eqb, get_or}
use Rattle.magnitudes.specs.declared.Mode.{Mode}
use Rattle.magnitudes.specs.declared.Mode.TheVariants.{TiesToEven, TiesToZero, TiesAway, TowardZero, TowardPlus, TowardMinus, ToOdd, Stochastic, EvenChance}

-- the modes by number, 0 to 8; stochastic rounding holds its count r of random bits
abbrev pub modes : ℕ → List Mode
modes r =
    TiesToEven  -- 0: nearest, ties to even
    ∷ TiesToZero  -- 1: nearest, ties to zero
    ∷ TiesAway  -- 2: nearest, ties away
    ∷ TowardZero  -- 3
    ∷ TowardPlus  -- 4
    ∷ TowardMinus  -- 5
    ∷ ToOdd  -- 6
    ∷ Stochastic r  -- 7: stochastic, r bits
    ∷ EvenChance  -- 8: stochastic, even chance
    ∷ []

-- the mode with a number; numbers above 8 are refused before it is asked for
unfoldable pub mode_of : ℕ → ℕ → Mode
mode_of number r = get_or (modes r) number EvenChance

-- a mode is one of document 01's: stochastic rounding has 1 to 53 random bits
abbrev pub ModeFits : Mode → Type 0
ModeFits mode = (r : ℕ) → mode ≡ Stochastic r → (1 ≤ r) × (r ≤ 53)

abbrev pub even : ℕ → Bool
even n = eqb (n % 2) 0

abbrev pub odd : ℕ → Bool
odd n = eqb (n % 2) 1

-- K: how many whole shares of G / 2^r the rest holds
unfoldable pub K : ℕ → ℕ → ℕ → ℕ
K r rest G = 2 ^ r * rest / G

-- u: the random number, which is the last r bits of the word
unfoldable pub u : ℕ → ℕ → ℕ
u r word = word % 2 ^ r

-- Whether hi is taken, for a magnitude that lies between lo and hi, by its sign (whether it is negative), lo's m, the rest
-- a - lo, the step G = hi - lo, and the word. hi is nearer where twice the rest is above G, and a tie is where it is G. m is
-- counted in the step G, also without subnormals (decision 5), so hi's is one more than lo's, and one of the two is even and
-- the other odd: 0 is even and zeta odd, xmax is odd and T even.
unfoldable pub takes_hi : Mode → Bool → ℕ → ℕ → ℕ → ℕ → Bool
takes_hi TiesToEven negative m rest G word = ltb G (2 * rest) || (eqb G (2 * rest) && odd m)
takes_hi TiesToZero negative m rest G word = ltb G (2 * rest)
takes_hi TiesAway negative m rest G word = leb G (2 * rest)
takes_hi TowardZero negative m rest G word = false
takes_hi TowardPlus negative m rest G word = not negative
takes_hi TowardMinus negative m rest G word = negative
takes_hi ToOdd negative m rest G word = even m
takes_hi (Stochastic r) negative m rest G word = leb (2 ^ r) (K r rest G + u r word)
takes_hi EvenChance negative m rest G word = odd word

-- whether the mode looks at the word
unfoldable pub uses_word : Mode → Bool
uses_word TiesToEven = false
uses_word TiesToZero = false
uses_word TiesAway = false
uses_word TowardZero = false
uses_word TowardPlus = false
uses_word TowardMinus = false
uses_word ToOdd = false
uses_word (Stochastic r) = true
uses_word EvenChance = true

-- from T on: whether infinity is the answer; where not, xmax is
unfoldable pub overflows : Mode → Bool → Bool
overflows TiesToEven negative = true
overflows TiesToZero negative = true
overflows TiesAway negative = true
overflows TowardZero negative = false
overflows TowardPlus negative = not negative
overflows TowardMinus negative = negative
overflows ToOdd negative = false
overflows (Stochastic r) negative = true
overflows EvenChance negative = true
