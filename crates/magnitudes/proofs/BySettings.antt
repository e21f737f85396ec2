-- Rounding by settings, as the code comes to it: each definition of specs/BySettings.antt in the form in which calls and
-- branches leave its parts. Assumes nothing.
use mathlib.Core.Bool.{Bool, true, false, cond}
use mathlib.Core.Path.{◌≡◌, sym, ap, ap₂, ◌∙◌}
use Prim.Native.Nat.{ℕ, ◌+◌, ◌-◌, ◌*◌, ◌/◌, ◌%◌, ◌^◌, ◌≤◌, ◌<◌, min, max}
use native.Mathlib.Nat.{mod-eq_of_lt, lt_of_le_of_lt, div-mul-le_self}
use native.Mathlib.Omega.{arith}
use mir.Val.{Fits}
use mir.Syntax.{w64}
use lib.Dec.{leb, ltb}
use lib.Pow.{pow_pos, pow_mono, shr_le}
use borrow.Author.Tests.{leb-true, lt-ltb, le-ltb}
use Rattle.laws.proofs.Words.{one_shifted}
use Rattle.patterns.specs.Patterns.{sign, mag, infinity, ex, sig, digits_of}
use Rattle.places.specs.Places.{high}
use Rattle.magnitudes.specs.declared.Mode.{Mode}
use Rattle.magnitudes.specs.declared.Settings.{Settings}
use Rattle.magnitudes.specs.Modes.{overflows}
use Rattle.magnitudes.specs.Increments.{increment}
use Rattle.magnitudes.specs.BySettings.{place, kept, trace, reached, moved, goes_to_by}
use Rattle.magnitudes.proofs.Choices.{increment-below}

-- ---- the place

module _ (cut emin bottom m n : ℕ) (counted : n ≡ digits_of m) where
  pub place_normal : emin < n → cut ≡ place cut emin bottom m
  unfolding place
  place_normal h = sym (ap (λ (b : Bool). cond b cut (bottom - ex m)) (ap (ltb emin) (sym counted) ∙ lt-ltb emin n h))

  pub place-below_normal : n ≤ emin → bottom - ex m ≡ place cut emin bottom m
  unfolding place
  place-below_normal small = sym (ap (λ (b : Bool). cond b cut (bottom - ex m)) (ap (ltb emin) (sym counted) ∙ le-ltb emin n small))

-- ---- where a digit is kept

module _ (mode : Mode) (negative : Bool) (word m d i n : ℕ) (below : m < 2 ^ 63) (few : d < 53) where
  module _ (e : i ≡ increment mode negative (n / 2 ^ d) (2 ^ d) word) where
    sum_below : m + i < 2 ^ 64
    sum_below =
        let small = increment-below mode negative (n / 2 ^ d) (2 ^ d) word (pow_pos d) in
        let most : 2 ^ d ≤ 2 ^ 53 = pow_mono {i = d} {j = 53} (omega arith) in
        omega arith

    -- the sum fits a word
    pub kept-fits : Fits w64 (m + i)
    kept-fits = record { fits = sum_below }

    pub kept_is : n ≡ sig m → (m + i) / 2 ^ d * 2 ^ d % 2 ^ 64 ≡ kept mode negative word m d
    unfolding kept high
    kept_is whole =
        mod-eq_of_lt (lt_of_le_of_lt (div-mul-le_self (m + i) (2 ^ d)) sum_below)
        ∙ ap (λ (x : ℕ). (m + x) / 2 ^ d * 2 ^ d) (e ∙ ap (λ (x : ℕ). increment mode negative (x / 2 ^ d) (2 ^ d) word) whole)

-- ---- where none is kept

module _ (mode : Mode) (negative : Bool) (word m d c h t i n : ℕ) (near : c ≡ min d 63) (whole : n ≡ sig m) (cut : h ≡ high n (d - c))
    (e : i ≡ increment mode negative 0 (2 ^ c) word) where
  -- the sum fits a word, whether 1 is the least that stays or 0
  pub reached-fits : (least : ℕ) → leb least 1 ≡ true → t ≡ max h least → Fits w64 (t + i)
  unfolding high
  reached-fits least few rest =
      let small = increment-below mode negative 0 (2 ^ c) word (pow_pos c) in
      let most : 2 ^ c ≤ 2 ^ 63 = pow_mono {i = c} {j = 63} (omega arith) in
      let less : n / 2 ^ (d - c) ≤ n = shr_le n (d - c) in
      let one : least ≤ 1 = leb-true least 1 few in
      record { fits = omega arith }

  pub reached_is : t ≡ max h 1 → leb (1 * 2 ^ c % 2 ^ 64) (t + i) ≡ reached mode negative word m d
  unfolding reached trace
  reached_is rest =
      let placed : 2 ^ c ≡ 2 ^ min d 63 = ap (λ (k : ℕ). 2 ^ k) near in
      let traced : t ≡ trace n (d - c) = omega (arith, rest, cut) in
      let held = ap₂ (λ (x k : ℕ). trace x (d - k)) whole near in
      let added = ap (λ (k : ℕ). increment mode negative 0 (2 ^ k) word) near in
      ap₂ leb (one_shifted 64 c (omega arith) ∙ placed) (ap₂ (λ (x y : ℕ). x + y) (traced ∙ held) (e ∙ added))

-- ---- below T, where a digit is kept

pub moved-kept : (s : Settings) (negative : Bool) (word m d : ℕ) → d ≡ place s.cut s.emin s.bottom m → d < 53
    → (y : ℕ) → y ≡ kept s.mode negative word m d → y ≡ moved s negative word m
unfolding moved
moved-kept s negative word m d at h y e = simp (← at, lt-ltb d 53 h, e)

-- ---- the magnitude of a pattern, by its sign

module _ (s : Settings) (word x : ℕ) (negative : Bool) (signed : negative ≡ sign x) (m : ℕ) (unsigned : m ≡ mag x) where
  module _ (below : m < s.top) (y : ℕ) (e : y ≡ moved s negative word m) where
    pub goes_below_top : y < s.top → y ≡ goes_to_by s (sign x) word (mag x)
    unfolding goes_to_by
    goes_below_top h = simp (← signed, ← unsigned, lt-ltb m s.top below, ← e, lt-ltb y s.top h)

    pub goes_to_top : s.top ≤ y → infinity ≡ goes_to_by s (sign x) word (mag x)
    unfolding goes_to_by
    goes_to_top h = simp (← signed, ← unsigned, lt-ltb m s.top below, ← e, le-ltb y s.top h)

  module _ (past : s.top ≤ m) (b : Bool) (e : b ≡ overflows s.mode negative) where
    pub goes_to-infinity : b ≡ true → infinity ≡ goes_to_by s (sign x) word (mag x)
    unfolding goes_to_by
    goes_to-infinity h = simp (← signed, ← unsigned, le-ltb m s.top past, ← e, h)

    pub goes_to-xmax : b ≡ false → s.xmax ≡ goes_to_by s (sign x) word (mag x)
    unfolding goes_to_by
    goes_to-xmax h = simp (← signed, ← unsigned, le-ltb m s.top past, ← e, h)
