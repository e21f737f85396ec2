-- A pattern is its sign and its magnitude: put together again they are the pattern, and each can be read off what was put
-- together. Assumes nothing.
use mathlib.Core.Bool.{Bool, true, false, cond}
use mathlib.Core.Path.{◌≡◌, refl, sym, ap, ◌∙◌}
use mathlib.Core.Logic.{◌⊎◌, inl, inr}
use Prim.Native.Nat.{ℕ, ◌+◌, ◌*◌, ◌/◌, ◌%◌, ◌^◌, ◌≤◌, ◌<◌}
use native.Mathlib.Omega.{arith}
use lib.Dec.{leb}
use borrow.Author.Tests.{le-leb, lt-leb}
use Rattle.laws.proofs.Orders.{below_or_not}
use Rattle.patterns.specs.Patterns.{sign, mag, with_sign, infinity}

-- ---- a pattern of a sign and a magnitude

abbrev pub signed : Bool → ℕ → ℕ
signed b m = cond b (2 ^ 63 + m) m

-- the magnitude and the sign are those that were put together
module _ (b : Bool) (m : ℕ) (fits : m < 2 ^ 63) where
  pub signed_magnitude : mag (signed b m) ≡ m
  unfolding mag
  signed_magnitude = go b
    where
      go : (t : Bool) → signed t m % 2 ^ 63 ≡ m
      go true = omega arith
      go false = omega arith

  pub signed-sign : sign (signed b m) ≡ b
  unfolding sign
  signed-sign = go b
    where
      go : (t : Bool) → leb (2 ^ 63) (signed t m) ≡ t
      go true = le-leb (2 ^ 63) (2 ^ 63 + m) (omega arith)
      go false = lt-leb (2 ^ 63) m fits

-- every pattern is of its own
pub pattern_signed : (x : ℕ) → x < 2 ^ 64 → signed (sign x) (mag x) ≡ x
unfolding sign mag
pattern_signed x fits = go (below_or_not x (2 ^ 63))
  where
    go : (x < 2 ^ 63) ⊎ (2 ^ 63 ≤ x) → signed (sign x) (mag x) ≡ x
    go (inl below) = ap (λ (t : Bool). signed t (x % 2 ^ 63)) (lt-leb (2 ^ 63) x below) ∙ omega arith
    go (inr past) = ap (λ (t : Bool). signed t (x % 2 ^ 63)) (le-leb (2 ^ 63) x past) ∙ omega arith

-- ---- a magnitude

-- it leaves the sign bit free
pub magnitude_below : (x m : ℕ) → m ≡ mag x → m < 2 ^ 63
unfolding mag
magnitude_below x m e = omega arith

-- a pattern without a sign is its own,
plain_magnitude : (m : ℕ) → m < 2 ^ 63 → mag m ≡ m
unfolding mag
plain_magnitude m fits = omega arith

-- one not above infinity's among them
pub magnitude_is : (m : ℕ) → m ≤ infinity → mag m ≡ m
magnitude_is m most = plain_magnitude m (omega arith)

-- ---- the magnitude of m with the sign of x

pub magnitude_with_sign : (x m : ℕ) → mag (with_sign x m) ≡ mag m
unfolding with_sign
magnitude_with_sign x m = signed_magnitude (sign x) (mag m) (magnitude_below m (mag m) refl)

pub sign-with_sign : (x m : ℕ) → sign (with_sign x m) ≡ sign x
unfolding with_sign
sign-with_sign x m = signed-sign (sign x) (mag m) (magnitude_below m (mag m) refl)

-- a pattern is its own magnitude with its own sign
pub with_own_sign : (x : ℕ) → x < 2 ^ 64 → with_sign x (mag x) ≡ x
unfolding with_sign
with_own_sign x fits =
    ap (signed (sign x)) (plain_magnitude (mag x) (magnitude_below x (mag x) refl)) ∙ pattern_signed x fits

-- the code's way: the sign bit of x, and the bits below the sign's of m
pub with_sign-sum : (x m : ℕ) → x < 2 ^ 64 → x / 2 ^ 63 * 2 ^ 63 + m % 2 ^ 63 ≡ with_sign x m
unfolding with_sign sign mag
with_sign-sum x m fits = go (below_or_not x (2 ^ 63))
  where
    go : (x < 2 ^ 63) ⊎ (2 ^ 63 ≤ x) → x / 2 ^ 63 * 2 ^ 63 + m % 2 ^ 63 ≡ with_sign x m
    go (inl below) = omega arith ∙ sym (ap (λ (t : Bool). signed t (m % 2 ^ 63)) (lt-leb (2 ^ 63) x below))
    go (inr past) = omega arith ∙ sym (ap (λ (t : Bool). signed t (m % 2 ^ 63)) (le-leb (2 ^ 63) x past))
