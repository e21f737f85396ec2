-- The increments as the code makes them: below place d of a word of w bits, where the digits below
-- the place are `1 * 2 ^ d % 2 ^ w - 1`. Assumes nothing.
use mathlib.Core.Bool.{Bool}
use mathlib.Core.Path.{◌≡◌, sym, ap, ap₂, ◌∙◌}
use Prim.Native.Nat.{ℕ, suc, ◌+◌, ◌-◌, ◌*◌, ◌/◌, ◌%◌, ◌^◌, ◌≤◌, ◌<◌}
use native.Mathlib.Nat.{add_comm}
use native.Mathlib.Omega.{arith}
use lib.Bits.{bit_and}
use lib.Pow.{mod-mod-pow}
use Rattle.laws.proofs.Scales.{zeros_add, scale_div, scale_mod}
use Rattle.laws.proofs.Words.{one_shifted, low_past, low_masked}
use Rattle.places.specs.Places.{high}
use Rattle.magnitudes.specs.declared.Mode.{Mode}
use Rattle.magnitudes.specs.declared.Mode.TheVariants.{TiesToEven, ToOdd}
use Rattle.magnitudes.specs.Modes.{u}
use Rattle.magnitudes.specs.Increments.{increment}

-- ---- the digits below a place

module _ (w d : ℕ) (fits : d < w) where
  digits_below : 1 * 2 ^ d % 2 ^ w - 1 ≡ 2 ^ d - 1
  digits_below = ap (λ (x : ℕ). x - 1) (one_shifted w d fits)

  -- ---- the rows of the table that take a remainder, by a mask

  module _ (mode : Mode) (negative : Bool) (m word : ℕ) where
    pub ties_to_even_adds :
        mode ≡ TiesToEven → bit_and ((1 * 2 ^ d % 2 ^ w - 1) / 2 + m % 2) (1 * 2 ^ d % 2 ^ w - 1) ≡ increment mode negative m (2 ^ d) word
    unfolding increment
    ties_to_even_adds is = low_masked w ((1 * 2 ^ d % 2 ^ w - 1) / 2 + m % 2) d fits ∙ simp (is, digits_below)

    pub to_odd_adds : mode ≡ ToOdd → bit_and (1 * 2 ^ d % 2 ^ w - 1 + m % 2) (1 * 2 ^ d % 2 ^ w - 1) ≡ increment mode negative m (2 ^ d) word
    unfolding increment
    to_odd_adds is = low_masked w (1 * 2 ^ d % 2 ^ w - 1 + m % 2) d fits ∙ simp (is, digits_below)

-- ---- the share of mode 7

-- zeros put behind a number, and digits then dropped: only how many more of the one than of the other counts
moves_alike : (n a b c d : ℕ) → a + d ≡ c + b → n * 2 ^ a / 2 ^ b ≡ n * 2 ^ c / 2 ^ d
moves_alike n a b c d e =
    sym (scale_div (n * 2 ^ a) b d) ∙ ap₂ (λ (x k : ℕ). x / 2 ^ k) (zeros_add n a d) (add_comm b d)
    ∙ ap (λ (k : ℕ). n * 2 ^ k / 2 ^ (d + b)) e
    ∙ ap (λ (x : ℕ). x / 2 ^ (d + b)) (sym (zeros_add n c b)) ∙ scale_div (n * 2 ^ c) d b

module _ (word r d : ℕ) where
  -- the word moved up so that its last r bits stand below its last place, and cleared above them
  bits_moved_up : (last w top : ℕ) → w ≡ suc last → top ≡ 2 ^ last → r ≤ last → word * 2 ^ (last - r) % 2 ^ w % top ≡ u r word * 2 ^ (last - r)
  unfolding u
  bits_moved_up last w top wide power few =
      let all : last ≡ r + (last - r) = omega arith in
      ap₂ (λ (k x : ℕ). word * 2 ^ (last - r) % 2 ^ k % x) (omega arith) power ∙ mod-mod-pow (word * 2 ^ (last - r)) 1 last
      ∙ ap (λ (k : ℕ). word * 2 ^ (last - r) % 2 ^ k) all ∙ scale_mod word r (last - r)

  -- and then down so that they stand below d: their share of 2^d
  pub share_moved :
      (last w top : ℕ) → w ≡ suc last → top ≡ 2 ^ last → r < w → d < w
      → word * 2 ^ (last - r) % 2 ^ w % top / 2 ^ (last - d) ≡ u r word * 2 ^ d / 2 ^ r
  share_moved last w top wide power few fits =
      ap (λ (n : ℕ). n / 2 ^ (last - d)) (bits_moved_up last w top wide power (omega arith))
      ∙ moves_alike (u r word) (last - r) (last - d) d r (omega arith)

  -- where r is all of the word's bits or more, the word is its own last r
  pub share_whole : (w : ℕ) → word < 2 ^ w → w ≤ r → d < w → (y : ℕ) → y ≡ high word (r - d) → y ≡ u r word * 2 ^ d / 2 ^ r
  unfolding high u
  share_whole w small many fits y e =
      let whole : r - d + d ≡ r = omega arith in
      e ∙ sym (scale_div word (r - d) d) ∙ ap₂ (λ (n k : ℕ). n * 2 ^ d / 2 ^ k) (sym (low_past w word r small many)) whole
