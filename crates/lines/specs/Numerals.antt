-- Numbers written in digits, decimal or hexadecimal (document 01, "The job text"). Assumes nothing.
use Rattle.std.specs.Prelude.{cond, List, [], ◌∷◌, ◌++◌, ℕ, zero, suc, ◌+◌, ◌/◌, ◌%◌, ltb}

-- the byte of a digit: 0 to 9, then A to F in upper case
unfoldable pub digit : ℕ → ℕ
digit d = cond (ltb d 10) (48 + d) (55 + d)

-- the last k digits of a number in a base, the highest first
unfoldable pub digits : ℕ → ℕ → ℕ → List ℕ
digits base zero n = []
digits base (suc k) n = digits base k (n / base) ++ (digit (n % base) ∷ [])

-- how many decimal digits a number below 10000 takes, with no zero in front of it
unfoldable pub decimals : ℕ → ℕ
decimals n = cond (ltb n 10) 1 (cond (ltb n 100) 2 (cond (ltb n 1000) 3 4))
