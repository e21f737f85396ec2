-- Lists of whole numbers: one made from a rule, how often a number stands in one, its sum, and one laid over another.
-- Assumes nothing.
use Rattle.std.specs.Prelude.{cond, List, [], ◌∷◌, ◌++◌, ℕ, zero, suc, ◌+◌, leb, eqb, length, drop}

-- the list of n entries whose entry i is g i
abbrev pub tab : {A : Type 0} → ℕ → (ℕ → A) → List A
tab zero g = []
tab (suc n) g = g 0 ∷ tab n (λ (i : ℕ). g (suc i))

-- the numbers below n, in order
abbrev pub below : ℕ → List ℕ
below n = tab n (λ (i : ℕ). i)

-- how often n stands in a list
unfoldable pub times : ℕ → List ℕ → ℕ
times n [] = 0
times n (m ∷ ms) = cond (eqb n m) 1 0 + times n ms

-- what the numbers of a list add up to
unfoldable pub sum : List ℕ → ℕ
sum [] = 0
sum (m ∷ ms) = m + sum ms

-- a list laid over the start of another, whose end stays as it was; one that is too long for it changes nothing
unfoldable pub over : List ℕ → List ℕ → List ℕ
over a l = cond (leb (length a) (length l)) (a ++ drop (length a) l) l
