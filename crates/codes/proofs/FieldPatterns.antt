-- The binary64 pattern of a number of the format, by the number's fields n: what the code makes of them, below the normal range
-- and in it, is the pattern of what they are worth. Assumes nothing.
use mathlib.Core.Path.{◌≡◌, refl, sym, ap, ◌∙◌, subst}
use mathlib.Core.Logic.{◌⊎◌, inl, inr}
use Prim.Native.Nat.{ℕ, zero, suc, ◌+◌, ◌-◌, ◌*◌, ◌^◌, ◌≤◌, ◌<◌, zero-le}
use native.Mathlib.Nat.{le_of_lt, lt_of_lt_of_le, ne_of_gt, add-mul, zero-mul, mul-le-mul_right, add-sub_of_le, sub-add_cancel, eq-zero-or-pos}
use native.Mathlib.Omega.{arith}
use lib.Pow.{pow-add, pow_mono, shl_lt, shl_exact}
use lib.Ieee.{size}
use lib.Ieee.Digits.{size-lt, size-le}
use Rattle.laws.proofs.Digits.{size_first}
use Rattle.laws.proofs.Orders.{below_or_not}
use Rattle.laws.proofs.Scales.{zeros_add}
use Rattle.patterns.specs.Patterns.{val, ex, sig, pat}
use Rattle.places.specs.Places.{moved_up}
use Rattle.patterns.proofs.Values.{val_product, val_small, pat-val, pat_at, digits_subnormal}
use Rattle.grid.specs.declared.Format.{Format}
use Rattle.grid.specs.Formats.{InRange, emin, smallest_normal}
use Rattle.grid.proofs.Steps.{emin_normal}
use Rattle.grid.proofs.Places.{smallest_normal_at}
use Rattle.bylayout.specs.ByLayout.{small_pattern}
use Rattle.bylayout.proofs.Unpackings.{small_zero, small_short, small_full}
use Rattle.codes.proofs.Worth.{worth_of, first_moved, worth_by_pattern}

-- ---- below the normal range

-- moved up until it has 53 digits, a number has its first one where a normal number has it
first_digit : (n d : ℕ) → size n ≡ d → (n ≡ 0 → ⊥) → d ≤ 53 → 2 ^ 52 ≤ n * 2 ^ (53 - d)
first_digit n zero counted some most =
    let none : n < 2 ^ 0 = subst (λ (d : ℕ). n < 2 ^ d) counted (size-lt n) in
    absurd (some (omega arith))
first_digit n (suc k) counted some most =
    let place : k + (53 - suc k) ≡ 52 = omega arith in
    subst (λ (x : ℕ). x ≤ n * 2 ^ (53 - suc k)) (sym (pow-add 2 k (53 - suc k)) ∙ ap (λ (j : ℕ). 2 ^ j) place)
    (mul-le-mul_right (2 ^ (53 - suc k)) (size_first n k counted))

-- fields n with e zeros behind them
module _ (e n : ℕ) (few : n < 2 ^ 52) (low : e ≤ 1074) where
  -- up to 53 digits are moved whole
  module _ (k : ℕ) (most : size n + k ≤ 53) where
    moved-below : n * 2 ^ k < 2 ^ 53
    moved-below = lt_of_lt_of_le (shl_lt (size n) k (size-lt n)) (pow_mono most)

    moved_whole : n * 2 ^ k ≡ moved_up n k
    unfolding moved_up
    moved_whole = sym (shl_exact (size n) k 64 (size-lt n) (omega arith))

  module _ (some : n ≡ 0 → ⊥) where
    -- the zeros fit behind the fields,
    small_below : e < 53 - size n → small_pattern e n ≡ pat (n * 2 ^ e)
    small_below fits =
        let m = n * 2 ^ e in
        let most : size n + e ≤ 53 = omega arith in
        sym (small_short e n some (size n) (digits_subnormal n few) (53 - size n) refl fits m (moved_whole e most))
        ∙ sym (pat-val m)
        ∙ ap pat (val_small m (moved-below e most))

    -- or the first digit stands where a normal number has it, and the exponent counts the zeros that are left
    small_raised : 53 - size n ≤ e → small_pattern e n ≡ pat (n * 2 ^ e)
    unfolding moved_up
    small_raised reached =
        let room = 53 - size n in
        let s = n * 2 ^ room in
        let count = (e - room) * 2 ^ 52 in
        let short : size n ≤ 52 = size-le n 52 few in
        let most : size n + room ≤ 53 = omega arith in
        let below : s < 2 ^ 53 = moved-below room most in
        let full : 2 ^ 52 ≤ s = first_digit n (size n) refl some (omega arith) in
        sym
        (small_full e n some (size n) (digits_subnormal n few) room refl reached
        count (omega arith) s (moved_whole room most) (count + s) (omega arith))
        ∙ sym (pat_at (e - room) s (le_of_lt below) (inr full))
        ∙ ap pat (zeros_add n room (e - room) ∙ ap (λ (k : ℕ). n * 2 ^ k) (add-sub_of_le reached))

  pub small_pattern_is : small_pattern e n ≡ pat (n * 2 ^ e)
  small_pattern_is = go (eq-zero-or-pos n) (below_or_not e (53 - size n))
    where
      go : (n ≡ 0) ⊎ (0 < n) → (e < 53 - size n) ⊎ (53 - size n ≤ e) → small_pattern e n ≡ pat (n * 2 ^ e)
      go (inl none) s =
          let nothing : n * 2 ^ e ≡ 0 = ap (λ (x : ℕ). x * 2 ^ e) none ∙ zero-mul (2 ^ e) in
          sym (small_zero e n none) ∙ sym (pat_at 0 0 zero-le (inl refl)) ∙ ap pat (sym nothing)
      go (inr some) (inl fits) = small_below (ne_of_gt some) fits
      go (inr some) (inr reached) = small_raised (ne_of_gt some) reached

-- ---- in the normal range

-- a pattern whose value moves up by k places: the exponent counts them
pattern_raised : (m k : ℕ) → 2 ^ 52 ≤ m → pat (val m * 2 ^ k) ≡ m + k * 2 ^ 52
pattern_raised m k normal =
    ap (λ (v : ℕ). pat (v * 2 ^ k)) (val_product m)
    ∙ ap pat (zeros_add (sig m) (ex m) k)
    ∙ pat_at (ex m + k) (sig m) (omega arith) (inr (omega arith))
    ∙ omega arith

module _ (f : Format) (r : InRange f) (n : ℕ) (normal : 2 ^ (f.p - 1) ≤ n) where
  -- fields with binary64's zeros behind them are as far above its first ones
  fields_moved : n * 2 ^ (53 - f.p) ≡ (n - 2 ^ (f.p - 1)) * 2 ^ (53 - f.p) + 2 ^ 52
  fields_moved =
      let first = 2 ^ (f.p - 1) in
      let d = 2 ^ (53 - f.p) in
      ap (λ (x : ℕ). x * d) (sym (sub-add_cancel normal))
      ∙ add-mul (n - first) first d
      ∙ ap (λ (x : ℕ). (n - first) * d + x) (first_moved f r)

  -- so the pattern is as far above that of the smallest normal number
  pub normal_pattern_is : pat (worth_of f n) ≡ (n - 2 ^ (f.p - 1)) * 2 ^ (53 - f.p) + pat (smallest_normal f)
  normal_pattern_is =
      let m = n * 2 ^ (53 - f.p) in
      ap pat (worth_by_pattern f r n)
      ∙ pattern_raised m (emin f - 52) (omega (arith, fields_moved))
      ∙ omega (arith, fields_moved, smallest_normal_at f r, emin_normal f r)
