-- The patterns of powers of two, as the code makes them. Assumes nothing.
use mathlib.Core.Path.{◌≡◌, refl, sym, ap, ◌∙◌}
use mathlib.Core.Logic.{inl, inr}
use Prim.Native.Nat.{ℕ, ◌+◌, ◌-◌, ◌*◌, ◌^◌, ◌≤◌, ◌<◌, min}
use native.Mathlib.Nat.{le_refl, mul-one}
use native.Mathlib.Omega.{arith}
use lib.Pow.{pow-add, pow_mono}
use Rattle.patterns.specs.Patterns.{infinity, pat, power_pattern}
use Rattle.patterns.proofs.Values.{pat_at, pat-infinity}

module _ (k : ℕ) where
  -- up to 2^52 units a power is its own pattern
  pub power_small : k < 52 → 2 ^ k ≡ power_pattern k
  unfolding power_pattern
  power_small h =
      let most : 2 ^ k ≤ 2 ^ 53 = pow_mono {i = k} {j = 53} (omega arith) in
      let held : k ≡ min k (1074 + 1024) = omega arith in
      sym (ap (λ (j : ℕ). pat (2 ^ j)) (sym held) ∙ ap pat (sym (mul-one (2 ^ k))) ∙ pat_at 0 (2 ^ k) most (inl refl) ∙ omega arith)

  -- from there on its exponent field counts it
  pub pat_power : 52 ≤ k → pat (2 ^ k) ≡ (k - 51) * 2 ^ 52
  pat_power h =
      ap pat (ap (λ (j : ℕ). 2 ^ j) (sum h) ∙ pow-add 2 52 (k - 52)) ∙ pat_at (k - 52) (2 ^ 52) (omega arith) (inr (le_refl (2 ^ 52))) ∙ omega arith
    where
      sum : 52 ≤ k → k ≡ 52 + (k - 52)
      sum h = omega arith

  pub power_large : 52 ≤ k → k < 1074 + 1024 → (k - 51) * 2 ^ 52 ≡ power_pattern k
  unfolding power_pattern
  power_large h g =
      let held : min k (1074 + 1024) ≡ k = omega arith in
      sym (ap (λ (j : ℕ). pat (2 ^ j)) held ∙ pat_power h)

  pub power_infinity : 1074 + 1024 ≤ k → infinity ≡ power_pattern k
  unfolding power_pattern
  power_infinity h =
      let held : min k (1074 + 1024) ≡ 1074 + 1024 = omega arith in
      sym (ap (λ (j : ℕ). pat (2 ^ j)) held ∙ pat-infinity)

  pub power_pattern_is : k ≤ 1074 + 1024 → power_pattern k ≡ pat (2 ^ k)
  unfolding power_pattern
  power_pattern_is h = ap (λ (j : ℕ). pat (2 ^ j)) (omega arith)
