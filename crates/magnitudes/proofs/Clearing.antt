-- Rounding by a sum, for every mode at once: the candidate that a magnitude goes to is its significand with the mode's
-- increment added below the place and the digits there cleared; where a digit is kept, the pattern itself may be added to
-- and cleared instead. The place d is any for which d + ex m is the step's exponent. Assumes nothing.
use mathlib.Core.Bool.{Bool, true, false, cond}
use mathlib.Core.Path.{◌≡◌, sym, ap, ap₂, ◌∙◌}
use mathlib.Core.Logic.{◌⊎◌, inl, inr}
use Prim.Native.Nat.{ℕ, ◌+◌, ◌-◌, ◌*◌, ◌/◌, ◌%◌, ◌^◌, ◌≤◌, ◌<◌}
use native.Mathlib.Nat.{mul_assoc, add-mul, mod-lt, div-add-mod', add-zero, mul-pos, eq-zero-or-pos, zero-mul}
use native.Mathlib.Omega.{arith}
use lib.Dec.{leb}
use lib.Pow.{pow-add, pow_pos}
use borrow.Author.Tests.{lt-leb, eq-eqb, ne_eqb}
use Rattle.laws.proofs.Multiples.{clears_carry, clears_past, clears_least, clears_most}
use Rattle.laws.proofs.Scales.{scale_div}
use Rattle.patterns.specs.Patterns.{val, ex, sig, digits_of}
use Rattle.patterns.proofs.Values.{val_product, val_at, Full, sig_full}
use Rattle.grid.specs.declared.Format.{Format}
use Rattle.grid.specs.Formats.{step_exp, step}
use Rattle.grid.specs.Neighbours.{lo, hi}
use Rattle.magnitudes.specs.declared.Mode.{Mode}
use Rattle.magnitudes.specs.Modes.{takes_hi}
use Rattle.magnitudes.specs.Destinations.{taken}
use Rattle.magnitudes.specs.Increments.{increment}
use Rattle.magnitudes.proofs.Choices.{increment-below, choice_by_increment, choice_scales}

-- ---- lo, hi and the choice, scaled down to the significand

module _ (f : Format) (m d : ℕ) (at : d + ex m ≡ step_exp f (digits_of m)) where
  step_scaled : step f (val m) ≡ 2 ^ d * 2 ^ ex m
  unfolding step digits_of
  step_scaled = ap (λ (k : ℕ). 2 ^ k) (sym at) ∙ pow-add 2 d (ex m)

  count_scaled : val m / step f (val m) ≡ sig m / 2 ^ d
  unfolding step digits_of
  count_scaled = ap₂ (λ (x k : ℕ). x / 2 ^ k) (val_product m) (sym at) ∙ scale_div (sig m) d (ex m)

  lo_scaled : lo f (val m) ≡ sig m / 2 ^ d * 2 ^ d * 2 ^ ex m
  unfolding lo
  lo_scaled = ap₂ (λ (x y : ℕ). x * y) count_scaled step_scaled ∙ sym (mul_assoc (sig m / 2 ^ d) (2 ^ d) (2 ^ ex m))

  hi_scaled : hi f (val m) ≡ (sig m / 2 ^ d * 2 ^ d + 2 ^ d) * 2 ^ ex m
  unfolding hi
  hi_scaled = ap₂ (λ (x y : ℕ). x + y) lo_scaled step_scaled ∙ sym (add-mul (sig m / 2 ^ d * 2 ^ d) (2 ^ d) (2 ^ ex m))

  -- a is lo and the rest
  value_scaled : val m ≡ lo f (val m) + sig m % 2 ^ d * 2 ^ ex m
  value_scaled =
      val_product m ∙ ap (λ (x : ℕ). x * 2 ^ ex m) (sym (div-add-mod' (sig m) (2 ^ d)))
      ∙ add-mul (sig m / 2 ^ d * 2 ^ d) (sig m % 2 ^ d) (2 ^ ex m)
      ∙ ap (λ (x : ℕ). x + sig m % 2 ^ d * 2 ^ ex m) (sym lo_scaled)

  rest_scaled : val m - lo f (val m) ≡ sig m % 2 ^ d * 2 ^ ex m
  rest_scaled = omega (arith, value_scaled)

  module _ (mode : Mode) (negative : Bool) (word : ℕ) where
    -- what the mode adds below the place
    abbrev added : ℕ
    added = increment mode negative (sig m / 2 ^ d) (2 ^ d) word

    -- the choice is whether the rest of the significand and the increment reach the place
    choice_scaled : 0 < sig m % 2 ^ d
        → takes_hi mode negative (val m / step f (val m)) (val m - lo f (val m)) (step f (val m)) word ≡ leb (2 ^ d) (sig m % 2 ^ d + added)
    choice_scaled some =
        ap (λ (x : ℕ). takes_hi mode negative x (val m - lo f (val m)) (step f (val m)) word) count_scaled
        ∙ ap₂ (λ (x y : ℕ). takes_hi mode negative (sig m / 2 ^ d) x y word) rest_scaled step_scaled
        ∙ choice_scales mode negative (sig m / 2 ^ d) (sig m % 2 ^ d) (2 ^ d) (2 ^ ex m) word (pow_pos (ex m))
        ∙ choice_by_increment mode negative (sig m / 2 ^ d) (sig m % 2 ^ d) d word some (mod-lt (sig m) (pow_pos d))

    lo_or_hi : (b : Bool) → cond b (hi f (val m)) (lo f (val m)) ≡ (sig m / 2 ^ d * 2 ^ d + cond b (2 ^ d) 0) * 2 ^ ex m
    lo_or_hi true = hi_scaled
    lo_or_hi false = lo_scaled ∙ ap (λ (x : ℕ). x * 2 ^ ex m) (sym (add-zero (sig m / 2 ^ d * 2 ^ d)))

    -- In every mode, the candidate that a magnitude goes to is its significand with the increment added below the place and
    -- the digits there cleared.
    pub taken_is_cleared : taken f mode negative word (val m) ≡ (sig m + added) / 2 ^ d * 2 ^ d * 2 ^ ex m
    unfolding taken
    taken_is_cleared =
        go (eq-zero-or-pos (sig m % 2 ^ d))
        ∙ ap (λ (x : ℕ). x * 2 ^ ex m) (sym (clears_carry (2 ^ d) (sig m) added small))
      where
        small : added < 2 ^ d
        small = increment-below mode negative (sig m / 2 ^ d) (2 ^ d) word (pow_pos d)

        chosen : Bool → ℕ
        chosen exact = cond exact (val m) (cond (takes_hi mode negative (val m / step f (val m)) (val m - lo f (val m)) (step f (val m)) word) (hi f (val m)) (lo f (val m)))

        go : (sig m % 2 ^ d ≡ 0) ⊎ (0 < sig m % 2 ^ d)
            → taken f mode negative word (val m) ≡ (sig m / 2 ^ d * 2 ^ d + cond (leb (2 ^ d) (sig m % 2 ^ d + added)) (2 ^ d) 0) * 2 ^ ex m
        go (inl none) =
            let exact : val m ≡ lo f (val m) = value_scaled ∙ ap (λ (x : ℕ). lo f (val m) + x * 2 ^ ex m) none ∙ omega (arith, zero-mul (2 ^ ex m)) in
            let stays : leb (2 ^ d) (sig m % 2 ^ d + added) ≡ false = lt-leb (2 ^ d) (sig m % 2 ^ d + added) (omega (arith, small)) in
            ap chosen (eq-eqb (val m) (lo f (val m)) exact) ∙ exact ∙ lo_or_hi false
            ∙ ap (λ (b : Bool). (sig m / 2 ^ d * 2 ^ d + cond b (2 ^ d) 0) * 2 ^ ex m) (sym stays)
        go (inr some) =
            let gap : 0 < sig m % 2 ^ d * 2 ^ ex m = mul-pos some (pow_pos (ex m)) in
            ap chosen (ne_eqb (val m) (lo f (val m)) (λ (e : val m ≡ lo f (val m)). omega (arith, value_scaled, gap)))
            ∙ ap (λ (b : Bool). cond b (hi f (val m)) (lo f (val m))) (choice_scaled some)
            ∙ lo_or_hi (leb (2 ^ d) (sig m % 2 ^ d + added))

-- ---- on the pattern itself

-- where a digit is kept, clearing the pattern clears the significand, and a carry raises the exponent
kept-value : (m i d : ℕ) → i < 2 ^ d → d < 53 → val ((m + i) / 2 ^ d * 2 ^ d) ≡ (sig m + i) / 2 ^ d * 2 ^ d * 2 ^ ex m
kept-value m i d small few =
    let places : d ≤ 52 = omega arith in
    let pattern : m + i ≡ ex m * 2 ^ 52 + (sig m + i) = omega arith in
    let most : (sig m + i) / 2 ^ d * 2 ^ d ≤ 2 ^ 53 = clears_most d 53 (sig m + i) (omega arith) (omega arith) in
    ap (λ (x : ℕ). val (x / 2 ^ d * 2 ^ d)) pattern
    ∙ ap val (clears_past d 52 (ex m) (sig m + i) places)
    ∙ val_at (ex m) ((sig m + i) / 2 ^ d * 2 ^ d) most (go places (sig_full m))
  where
    go : d ≤ 52 → Full (ex m) (sig m) → Full (ex m) ((sig m + i) / 2 ^ d * 2 ^ d)
    go places (inl none) = inl none
    go places (inr full) = inr (clears_least d 52 (sig m + i) places (omega arith))

-- So the pattern with the increment added below the place and the digits there cleared is worth the candidate taken.
pub pattern_cleared-is_taken : (f : Format) (m d : ℕ) → d + ex m ≡ step_exp f (digits_of m) → d < 53 → (mode : Mode) (negative : Bool) (word : ℕ)
    → val ((m + increment mode negative (sig m / 2 ^ d) (2 ^ d) word) / 2 ^ d * 2 ^ d) ≡ taken f mode negative word (val m)
pattern_cleared-is_taken f m d at few mode negative word =
    kept-value m (increment mode negative (sig m / 2 ^ d) (2 ^ d) word) d (increment-below mode negative (sig m / 2 ^ d) (2 ^ d) word (pow_pos d)) few
    ∙ sym (taken_is_cleared f m d at mode negative word)
