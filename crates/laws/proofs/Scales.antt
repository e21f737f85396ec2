-- Numbers scaled together: what a common factor leaves as it was, above all where it is a power and moves a number and a
-- place alike. Assumes nothing.
use mathlib.Core.Path.{◌≡◌, sym, ap, ap₂, ◌∙◌}
use Prim.Native.Nat.{ℕ, suc, ◌+◌, ◌*◌, ◌/◌, ◌%◌, ◌^◌, ◌≤◌, ◌<◌}
use native.Mathlib.Nat.{add-zero, mul_assoc, mul-mod_left, mul-div-mul_right, mul-le-mul_right, le_of_mul-le-mul_right, mul-lt-mul_of_pos_right, lt_of_mul-lt-mul_right, eq_of_mul-eq-mul_right}
use lib.Dec.{leb, ltb, eqb}
use lib.Pow.{pow-add, pow_pos, shl-shr, mod-pow-add}
use Rattle.laws.proofs.Orders.{leb_alike, eqb_alike}

-- ---- places

-- zeros behind zeros
pub zeros_add : (s a b : ℕ) → s * 2 ^ a * 2 ^ b ≡ s * 2 ^ (a + b)
zeros_add s a b = mul_assoc s (2 ^ a) (2 ^ b) ∙ ap (λ (x : ℕ). s * x) (sym (pow-add 2 a b))

-- zeros behind a number, and the place as much further up: what stands from the place on stays
pub scale_div : (s d e : ℕ) → s * 2 ^ e / 2 ^ (d + e) ≡ s / 2 ^ d
scale_div s d e = ap (λ (x : ℕ). s * 2 ^ e / x) (pow-add 2 d e) ∙ mul-div-mul_right s (2 ^ d) (pow_pos e)

-- and what stands below it gets the zeros
pub scale_mod : (s d e : ℕ) → s * 2 ^ e % 2 ^ (d + e) ≡ s % 2 ^ d * 2 ^ e
scale_mod s d e =
    mod-pow-add (s * 2 ^ e) d e
    ∙ ap₂ (λ (q r : ℕ). q % 2 ^ d * 2 ^ e + r) (shl-shr s e) (mul-mod_left s (2 ^ e))
    ∙ add-zero (s % 2 ^ d * 2 ^ e)

-- ---- tests

-- a common factor leaves the test of an order as it was
pub leb_scales : (m n c : ℕ) → 0 < c → leb (m * c) (n * c) ≡ leb m n
leb_scales m n c some =
    leb_alike (m * c) (n * c) m n (λ (h : m * c ≤ n * c). le_of_mul-le-mul_right h some) (λ (h : m ≤ n). mul-le-mul_right c h)

-- and of a strict one
pub ltb_scales : (m n c : ℕ) → 0 < c → ltb (m * c) (n * c) ≡ ltb m n
ltb_scales m n c some =
    leb_alike (suc (m * c)) (n * c) (suc m) n (λ (h : m * c < n * c). lt_of_mul-lt-mul_right c h) (λ (h : m < n). mul-lt-mul_of_pos_right h some)

-- and of an equation
pub eqb_scales : (m n c : ℕ) → 0 < c → eqb (m * c) (n * c) ≡ eqb m n
eqb_scales m n c some =
    eqb_alike (m * c) (n * c) m n (λ (e : m * c ≡ n * c). eq_of_mul-eq-mul_right c some m n e) (λ (e : m ≡ n). ap (λ (x : ℕ). x * c) e)
