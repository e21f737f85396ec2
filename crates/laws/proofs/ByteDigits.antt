-- The bytes of a number are its digits to the base 256: they add up to it, each times what its place is worth, and bytes that are
-- added up like that are the sum's own. Over any count of bytes. Assumes nothing.
use mathlib.Core.Path.{◌≡◌, sym, ap, ap₂, ◌∙◌, subst, subst₂}
use Prim.Native.Nat.{ℕ, zero, suc, ◌+◌, ◌*◌, ◌/◌, ◌%◌, ◌^◌, ◌<◌, zero-le, suc-le-suc}
use native.Mathlib.Nat.{le_of_suc-le-suc, not-suc-le-zero, add_comm, mul-one, mul_assoc, mod-lt, mod-one, div-one, div-div-eq-div-mul, pow-zero, pow-suc, pow-succ', one-le-pow}
use native.Mathlib.Omega.{arith}
use lib.Arith.{digits_lt, digits_div, digits_mod, mod-mul}
use Rattle.laws.specs.Lists.{tab, sum}
use Rattle.laws.proofs.Lists.{tab_alike}
use Rattle.laws.specs.Bytes.{byte_of}
use Rattle.laws.proofs.Sums.{sum_scales}

-- ---- the lowest digit, and those above it

-- digits of a number by a rule, each times what its place is worth
abbrev worth : ℕ → (ℕ → ℕ) → ℕ
worth n g = sum (tab n (λ (k : ℕ). g k * 256 ^ k))

-- the lowest one, and 256 times what those above it make
lowest_apart : (n : ℕ) (g : ℕ → ℕ) → worth (suc n) g ≡ worth n (λ (k : ℕ). g (suc k)) * 256 + g 0
unfolding sum
lowest_apart n g =
    ap₂ (λ (x y : ℕ). x + y) (ap (λ (x : ℕ). g 0 * x) (pow-zero 256) ∙ mul-one (g 0))
    (ap sum
    (tab_alike n (λ (k : ℕ). g (suc k) * 256 ^ suc k) (λ (k : ℕ). g (suc k) * 256 ^ k * 256)
    (λ k below. ap (λ (x : ℕ). g (suc k) * x) (pow-suc 256 k) ∙ sym (mul_assoc (g (suc k)) (256 ^ k) 256)))
    ∙ sum_scales n (λ (k : ℕ). g (suc k) * 256 ^ k) 256)
    ∙ add_comm (g 0) (worth n (λ (k : ℕ). g (suc k)) * 256)

-- byte 0 of a number is what 256 leaves of it,
byte_lowest : (w : ℕ) → byte_of w 0 ≡ w % 256
unfolding byte_of
byte_lowest w = ap (λ (x : ℕ). w / x % 256) (pow-zero 256) ∙ ap (λ (x : ℕ). x % 256) (div-one w)

-- and those above it are the bytes of the rest
byte_above : (w k : ℕ) → byte_of w (suc k) ≡ byte_of (w / 256) k
unfolding byte_of
byte_above w k = ap (λ (x : ℕ). w / x % 256) (pow-succ' 256 k) ∙ ap (λ (x : ℕ). x % 256) (sym (div-div-eq-div-mul w 256 (256 ^ k)))

-- ---- the bytes of a number

-- each is below 256
pub byte_below : (w k : ℕ) → byte_of w k < 256
unfolding byte_of
byte_below w k = mod-lt (w / 256 ^ k) (omega arith)

-- n bytes of a number make what 256^n leaves of it
pub bytes_add_up : (n w : ℕ) → sum (tab n (λ (k : ℕ). byte_of w k * 256 ^ k)) ≡ w % 256 ^ n
unfolding sum
bytes_add_up zero w = sym (ap (λ (x : ℕ). w % x) (pow-zero 256) ∙ mod-one w)
bytes_add_up (suc n) w =
    lowest_apart n (byte_of w)
    ∙ ap₂ (λ (x y : ℕ). x * 256 + y)
    (ap sum
    (tab_alike n (λ (k : ℕ). byte_of w (suc k) * 256 ^ k) (λ (k : ℕ). byte_of (w / 256) k * 256 ^ k)
    (λ k below. ap (λ (x : ℕ). x * 256 ^ k) (byte_above w k)))
    ∙ bytes_add_up n (w / 256))
    (byte_lowest w)
    ∙ sym (ap (λ (x : ℕ). w % x) (pow-suc 256 n) ∙ mod-mul w (one-le-pow n 256 (omega arith)) (omega arith))

-- ---- a number made of bytes

-- n bytes make a number below 256^n
pub bytes_make_below : (n : ℕ) (g : ℕ → ℕ) → ((k : ℕ) → k < n → g k < 256) → sum (tab n (λ (k : ℕ). g k * 256 ^ k)) < 256 ^ n
unfolding sum
bytes_make_below zero g small = subst (λ (x : ℕ). 0 < x) (sym (pow-zero 256)) (omega arith)
bytes_make_below (suc n) g small =
    subst₂ (λ (x y : ℕ). x < y) (sym (lowest_apart n g)) (sym (pow-suc 256 n))
    (digits_lt
    (bytes_make_below n (λ (k : ℕ). g (suc k)) (λ k below. small (suc k) (suc-le-suc below)))
    (small 0 (suc-le-suc zero-le)))

-- and they are its bytes
pub bytes_made : (n : ℕ) (g : ℕ → ℕ) → ((k : ℕ) → k < n → g k < 256)
    → (k : ℕ) → k < n → byte_of (sum (tab n (λ (i : ℕ). g i * 256 ^ i))) k ≡ g k
bytes_made zero g small k below = absurd (not-suc-le-zero below)
bytes_made (suc n) g small zero below =
    ap (λ (w : ℕ). byte_of w 0) (lowest_apart n g)
    ∙ byte_lowest (worth n (λ (k : ℕ). g (suc k)) * 256 + g 0)
    ∙ digits_mod (worth n (λ (k : ℕ). g (suc k))) (small 0 (suc-le-suc zero-le))
bytes_made (suc n) g small (suc k) below =
    ap (λ (w : ℕ). byte_of w (suc k)) (lowest_apart n g)
    ∙ byte_above (worth n (λ (k : ℕ). g (suc k)) * 256 + g 0) k
    ∙ ap (λ (w : ℕ). byte_of w k) (digits_div (worth n (λ (k : ℕ). g (suc k))) (small 0 (suc-le-suc zero-le)))
    ∙ bytes_made n (λ (k : ℕ). g (suc k)) (λ k below. small (suc k) (suc-le-suc below)) k (le_of_suc-le-suc below)
