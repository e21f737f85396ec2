-- What fits stays below T: up to xmax no increment reaches it, and in a steady mode none does above xmax either, since toward zero
-- adds nothing and to odd adds nothing to an odd number. Assumes nothing.
use Rattle.std.proofs.Common.{◌≡◌, ℕ, ◌+◌, ◌-◌, ◌*◌, ◌/◌, ◌%◌, ◌^◌, ◌<◌, ◌≤◌, Bool, true, false, cond, ◌⊎◌, sym, refl, ap, ◌∙◌, inl, inr, arith, pow_pos}
use mathlib.Core.Bool.{false≢true}
use native.Mathlib.Nat.{mod_self, mul-add-div_right, div-eq_of_lt}
use Rattle.laws.proofs.Multiples.{digit_past}
use Rattle.laws.proofs.Orders.{below_or_not}
use Rattle.patterns.specs.Patterns.{sig}
use Rattle.magnitudes.specs.declared.Mode.{Mode}
use Rattle.magnitudes.specs.declared.Mode.TheVariants.{TiesToEven, TiesToZero, TiesAway, TowardZero, TowardPlus, TowardMinus, ToOdd, Stochastic, EvenChance}
use Rattle.magnitudes.specs.declared.Settings.{Settings}
use Rattle.magnitudes.specs.Increments.{increment}
use Rattle.magnitudes.proofs.Choices.{increment-below}
use Rattle.sweeps.specs.Limits.{Sound, steady, most}
use Rattle.sweeps.proofs.Sums.{magnitude_digit}

-- every mode but toward zero and to odd is not steady
pub not_steady : (mode : Mode) → (mode ≡ TowardZero → ⊥) → (mode ≡ ToOdd → ⊥) → false ≡ steady mode
unfolding steady
not_steady TiesToEven not_zero not_odd = refl
not_steady TiesToZero not_zero not_odd = refl
not_steady TiesAway not_zero not_odd = refl
not_steady TowardZero not_zero not_odd = absurd (not_zero refl)
not_steady TowardPlus not_zero not_odd = refl
not_steady TowardMinus not_zero not_odd = refl
not_steady ToOdd not_zero not_odd = absurd (not_odd refl)
not_steady (Stochastic r) not_zero not_odd = refl
not_steady EvenChance not_zero not_odd = refl

-- a steady mode adds nothing where the last kept digit is odd
steady_adds_nothing :
    (mode : Mode) → steady mode ≡ true → (negative : Bool) (n D word : ℕ) → 0 < D → n % 2 ≡ 1 → increment mode negative n D word ≡ 0
unfolding steady increment
steady_adds_nothing TiesToEven is negative n D word some odd = absurd (false≢true is)
steady_adds_nothing TiesToZero is negative n D word some odd = absurd (false≢true is)
steady_adds_nothing TiesAway is negative n D word some odd = absurd (false≢true is)
steady_adds_nothing TowardZero is negative n D word some odd = refl
steady_adds_nothing TowardPlus is negative n D word some odd = absurd (false≢true is)
steady_adds_nothing TowardMinus is negative n D word some odd = absurd (false≢true is)
steady_adds_nothing ToOdd is negative n D word some odd =
    let whole : D - 1 + n % 2 ≡ D = omega arith in
    ap (λ (x : ℕ). x % D) whole ∙ mod_self D
steady_adds_nothing (Stochastic r) is negative n D word some odd = absurd (false≢true is)
steady_adds_nothing EvenChance is negative n D word some odd = absurd (false≢true is)

-- in the last step below a power of two's pattern the last kept digit is odd
last_is_odd : (t d m : ℕ) → d < 52 → m < t * 2 ^ 52 → t * 2 ^ 52 ≤ m + 2 ^ d → m / 2 ^ d % 2 ≡ 1
last_is_odd t d m few below near =
    let D = 2 ^ d in
    let r = m + D - t * 2 ^ 52 in
    let next : 1 * D + m ≡ t * 2 ^ 52 + r = omega arith in
    let none : r / D ≡ 0 = div-eq_of_lt (omega arith) in
    let even : (1 * D + m) / D % 2 ≡ 0 = ap (λ (n : ℕ). n / D % 2) next ∙ digit_past d 52 t r few ∙ ap (λ (q : ℕ). q % 2) none in
    let one_more : (1 * D + m) / D ≡ 1 + m / D = mul-add-div_right (pow_pos d) 1 m in
    omega arith

module _ (s : Settings) (f : Sound s) (negative : Bool) (word m : ℕ) where
  -- what the mode adds in the normal range
  abbrev more : ℕ
  more = increment s.mode negative (sig m / 2 ^ s.cut) (2 ^ s.cut) word

  xmax_stays : m ≤ s.xmax → m + more < s.top
  xmax_stays h = omega (arith, f.xmax_then_top, increment-below s.mode negative (sig m / 2 ^ s.cut) (2 ^ s.cut) word (pow_pos s.cut))

  steady_stays : steady s.mode ≡ true → m < s.top → m + more < s.top
  steady_stays is below = go (below_or_not s.xmax m)
    where
      go : (s.xmax < m) ⊎ (m ≤ s.xmax) → m + more < s.top
      go (inl past) =
          let d = s.cut in
          let few : d < 52 = omega (arith, f.cut_most) in
          let odd : m / 2 ^ d % 2 ≡ 1 = last_is_odd (s.top / 2 ^ 52) d m few (omega (arith, f.top_whole)) (omega (arith, f.top_whole, f.xmax_then_top)) in
          let none : more ≡ 0 =
          steady_adds_nothing s.mode is negative (sig m / 2 ^ d) (2 ^ d) word (pow_pos d) (sym (magnitude_digit m d few) ∙ odd) in
          omega arith
      go (inr within) = xmax_stays within

  -- what fits never comes out as T
  pub most_stays : m ≤ most s → m + more < s.top
  unfolding most
  most_stays fits = go (steady s.mode) refl fits
    where
      go : (b : Bool) → steady s.mode ≡ b → m ≤ cond b (s.top - 1) s.xmax → m + more < s.top
      go true is h = steady_stays is (omega (arith, f.top_above))
      go false is h = xmax_stays h
