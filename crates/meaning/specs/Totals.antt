-- The total that stochastic rounding has to hit: one input is rounded once with each of the 2^r random numbers, and the
-- answers are added up exactly (document 01, mode 7). Units of 2^-1074, with a sign. Assumes nothing.
use Rattle.std.specs.Prelude.{Bool, cond, List, [], ◌∷◌, map, ◌≡◌, ◌⊎◌, ℕ, ◌+◌, ◌-◌, ◌*◌, ◌%◌, ◌^◌, ◌≤◌, ◌<◌, ℤ, pos, neg_ℤ, ◌+ℤ◌}
use Rattle.laws.specs.Lists.{below, times}
use Rattle.patterns.specs.declared.Kind.TheVariants.{Zero, Finite}
use Rattle.patterns.specs.Patterns.{sign, mag, kind_of, val}
use Rattle.grid.specs.declared.Format.{Format}
use Rattle.grid.specs.Formats.{InRange, step, xmax}
use Rattle.grid.specs.Neighbours.{lo}
use Rattle.magnitudes.specs.declared.Mode.TheVariants.{Stochastic}
use Rattle.magnitudes.specs.Modes.{K, u}
use Rattle.rounding.specs.Rounded.{rounded}

-- the magnitude of a finite pattern
abbrev pub magnitude_in : ℕ → ℕ
magnitude_in x = val (mag x)

-- a magnitude with a sign
unfoldable pub signed : Bool → ℕ → ℤ
signed negative a = cond negative (neg_ℤ (pos a)) (pos a)

-- the number that a finite pattern stands for
unfoldable pub number_in : ℕ → ℤ
number_in x = signed (sign x) (magnitude_in x)

-- the exact total of a list of patterns
unfoldable pub total : List ℕ → ℤ
total [] = pos 0
total (x ∷ xs) = number_in x +ℤ total xs

-- the answers to x in mode 7 with r random bits, one for each word
unfoldable pub answers : Format → ℕ → ℕ → List ℕ → List ℕ
answers f r x words = map (λ (word : ℕ). rounded f (Stochastic r) word x) words

-- what is left of a above lo
abbrev pub rest : Format → ℕ → ℕ
rest f a = a - lo f a

-- 2^r times the magnitude a chopped r bits beyond the last place. What is chopped is lo + K·G / 2^r, and 2^r of it are a whole
-- number: 2^r times a with the digits below the step cleared (`chopped_clears`).
unfoldable pub chopped : Format → ℕ → ℕ → ℕ
chopped f r a = 2 ^ r * lo f a + K r (rest f a) (step f a) * step f a

-- what demand 3 asks for one input and a list of words
pub record HitsTotal (f : Format) (r x : ℕ) (words : List ℕ) : Type 0 where
  -- the answers add up to 2^r times the chopped input, exactly and with its sign
  pub exact : total (answers f r x words) ≡ signed (sign x) (chopped f r (magnitude_in x))
  -- so the total is not beyond 2^r times the input: it errs toward zero
  pub toward_zero : chopped f r (magnitude_in x) ≤ 2 ^ r * magnitude_in x
  -- by less than one step
  pub close : 2 ^ r * magnitude_in x < chopped f r (magnitude_in x) + step f (magnitude_in x)
  -- and by nothing where nothing was chopped, which is where the step divides 2^r times the rest
  pub whole : 2 ^ r * rest f (magnitude_in x) % step f (magnitude_in x) ≡ 0 → chopped f r (magnitude_in x) ≡ 2 ^ r * magnitude_in x
  -- each answer is a zero or a finite number, so none is infinite
  pub finite : (word : ℕ) → (kind_of (rounded f (Stochastic r) word x) ≡ Zero) ⊎ (kind_of (rounded f (Stochastic r) word x) ≡ Finite)

-- the last r bits of the words are each random number once
pub record EachOnce (r : ℕ) (words : List ℕ) : Type 0 where
  pub once : (n : ℕ) → n < 2 ^ r → times n (map (u r) words) ≡ 1

-- Demand 3, with the words from 0 to 2^r - 1: for every format in range, every r, and every input whose magnitude is at most
-- xmax, zeros among them. Infinities and NaNs are left out, since their patterns are worth more than any xmax
-- (`up_to_xmax_finite`); numbers above xmax are too, since answers to them may be infinite.
abbrev pub TotalOverAll : Type 0
TotalOverAll = (f : Format) (r x : ℕ) → InRange f → magnitude_in x ≤ xmax f → HitsTotal f r x (below (2 ^ r))

-- and with any words that have each random number once
abbrev pub TotalInAnyOrder : Type 0
TotalInAnyOrder =
    (f : Format) (r x : ℕ) (words : List ℕ) → InRange f → magnitude_in x ≤ xmax f → EachOnce r words → HitsTotal f r x words
