-- What is rounded without a branch is rounded right, where it fits. Settings that no format has need no premise: nothing fits
-- their limits. Assumes nothing.
use Rattle.std.proofs.Common.{◌≡◌, ℕ, ◌+◌, ◌-◌, ◌*◌, ◌/◌, ◌%◌, ◌^◌, ◌<◌, ◌≤◌, Bool, true, false, cond, leb, ◌⊎◌, sym, refl, ap, ◌∙◌, subst, ap₂, inl, inr, lt_of_le_of_lt, add-zero, mod-lt, mod-eq_of_lt, div-mul-le_self, arith, pow_pos, pow_mono, le-leb}
use lib.Bits.{bit_or}
use borrow.Author.Tests.{lt-leb}
use Rattle.laws.proofs.Multiples.{multiples_in, zeros_whole}
use Rattle.laws.proofs.Orders.{below_or_not}
use Rattle.laws.proofs.Words.{or_left_below, or_right_below}
use Rattle.patterns.specs.Patterns.{sign, mag, with_sign, infinity, sig, digits_of}
use Rattle.patterns.proofs.Signs.{magnitude_below, with_sign-sum}
use Rattle.patterns.proofs.Values.{digits_normal}
use Rattle.magnitudes.specs.declared.Mode.{Mode}
use Rattle.magnitudes.specs.declared.Settings.{Settings}
use Rattle.magnitudes.specs.Increments.{increment}
use Rattle.magnitudes.specs.BySettings.{place}
use Rattle.magnitudes.proofs.BySettings.{place_normal}
use Rattle.magnitudes.proofs.Choices.{increment-below, increment_parity}
use Rattle.rounding.specs.BySettings.{rounded_by}
use Rattle.sweeps.specs.declared.Limits.{Limits}
use Rattle.sweeps.specs.declared.Swept.{Swept}
use Rattle.sweeps.specs.Limits.{sound, Sound, most, limits}
use Rattle.sweeps.specs.Quick.{less, added, cleared, plainly, cappedly}
use Rattle.sweeps.proofs.Soundness.{sound_facts}
use Rattle.sweeps.proofs.Fitting.{most-below_top, limits_passed, limits_else}
use Rattle.sweeps.proofs.Sums.{pattern_digit, sum-with_sign, sum_is_rounded, carry_is_rounded}
use Rattle.sweeps.proofs.Steadiness.{most_stays}

-- ---- differences and sums within a word

-- a difference without the top bit has not gone below nothing
less-fits : (a b : ℕ) → a < 2 ^ 63 → b ≤ 2 ^ 63 → less a b < 2 ^ 63 → b ≤ a
unfolding less
less-fits a b few most fits = omega arith

-- a sum that leaves the sign bit alone stays within the word
sum_in_word : (x i : ℕ) → x < 2 ^ 64 → mag x + i < 2 ^ 63 → (x + i) % 2 ^ 64 ≡ x + i
unfolding mag
sum_in_word x i fits below = mod-eq_of_lt (omega arith)

-- so does a cleared sum with nothing added behind
nothing_behind : (mode : Mode) (word x d : ℕ) → (cleared mode word x d + 0) % 2 ^ 64 ≡ cleared mode word x d
unfolding cleared
nothing_behind mode word x d =
    let sum = (x + added mode word x d) % 2 ^ 64 in
    ap (λ (n : ℕ). n % 2 ^ 64) (add-zero (sum / 2 ^ d * 2 ^ d))
    ∙ mod-eq_of_lt (lt_of_le_of_lt (div-mul-le_self sum (2 ^ d)) (mod-lt (x + added mode word x d) (pow_pos 64)))

-- ---- from the start of the normal range on, by sound settings

module _ (s : Settings) (f : Sound s) (word x : ℕ) (fits : x < 2 ^ 64) (reached : (s.emin - 51) * 2 ^ 52 ≤ mag x) where
  -- what is added
  abbrev more : ℕ
  more = added s.mode word x s.cut

  -- the number is a normal one, and its place is the cut
  normal : 2 ^ 52 ≤ mag x
  normal = omega (arith, f.emin_least, reached)

  place_is_cut : s.cut ≡ place s.cut s.emin s.bottom (mag x)
  place_is_cut =
      place_normal s.cut s.emin s.bottom (mag x) (digits_of (mag x)) refl
      (omega (arith, f.emin_least, reached, digits_normal (mag x) normal))

  -- the pattern's own digit serves for the significand's
  more_is_increment : more ≡ increment s.mode (sign x) (sig (mag x) / 2 ^ s.cut) (2 ^ s.cut) word
  unfolding added
  more_is_increment =
      increment_parity s.mode (sign x) (x / 2 ^ s.cut) (sig (mag x) / 2 ^ s.cut) (2 ^ s.cut) word
      (pattern_digit x s.cut (omega (arith, f.cut_most)))

  more_small : more < 2 ^ s.cut
  more_small =
      subst (λ (i : ℕ). i < 2 ^ s.cut) (sym more_is_increment)
      (increment-below s.mode (sign x) (sig (mag x) / 2 ^ s.cut) (2 ^ s.cut) word (pow_pos s.cut))

  -- a sum below T is rounded
  cleared_is_rounded : mag x + more < s.top → cleared s.mode word x s.cut ≡ rounded_by s word x
  unfolding cleared
  cleared_is_rounded below =
      ap (λ (n : ℕ). n / 2 ^ s.cut * 2 ^ s.cut) (sum_in_word x more fits (omega (arith, f.top_most)))
      ∙ sum_is_rounded s word x s.cut fits (omega (arith, normal)) (omega (arith, f.top_most)) place_is_cut (omega (arith, f.cut_most))
      more more_is_increment below f.top_most

  -- and what is up to the most that fits has one
  plain_sum : mag x ≤ most s → cleared s.mode word x s.cut ≡ rounded_by s word x
  plain_sum within =
      cleared_is_rounded (subst (λ (i : ℕ). mag x + i < s.top) (sym more_is_increment) (most_stays s f (sign x) word (mag x) within))

  -- ---- below T

  module _ (below : mag x < s.top) where
    -- the sum leaves the sign bit alone
    sum_small : mag x + more < 2 ^ 63
    sum_small =
        let most : 2 ^ s.cut ≤ 2 ^ 51 = pow_mono {i = s.cut} {j = 51} f.cut_most in
        omega (arith, f.top_most, more_small)

    -- how far it is above T, and as far above the sign bit
    abbrev past : ℕ
    past = ((mag x + (2 ^ 63 - s.top)) % 2 ^ 64 + more) % 2 ^ 64

    -- what is added behind
    abbrev behind : ℕ
    behind = cond (leb (2 ^ 63) past) (infinity - s.top) 0

    -- T is whole steps
    top_in_steps : s.top / 2 ^ s.cut * 2 ^ s.cut ≡ s.top
    top_in_steps =
        let whole : s.top / 2 ^ 52 * 2 ^ 52 ≡ s.top = omega (arith, f.top_whole) in
        subst (λ (n : ℕ). n / 2 ^ s.cut * 2 ^ s.cut ≡ n) whole (zeros_whole (s.top / 2 ^ 52) s.cut 52 (omega (arith, f.cut_most)))

    -- a sum that reaches T is cleared to T
    carry_cleared : s.top ≤ mag x + more → cleared s.mode word x s.cut ≡ with_sign x s.top
    unfolding cleared
    carry_cleared over =
        let D = 2 ^ s.cut in
        ap (λ (n : ℕ). n / D * D) (sum_in_word x more fits sum_small)
        ∙ sum-with_sign x more s.cut fits (omega (arith, f.cut_most)) sum_small
        ∙ ap (λ (q : ℕ). with_sign x (q * D)) (multiples_in D (s.top / D) (mag x + more) (omega (arith, top_in_steps)) (omega (arith, top_in_steps, more_small)))
        ∙ ap (with_sign x) top_in_steps

    -- and T with its sign is moved on to infinity
    top_to_infinity : (with_sign x s.top + (infinity - s.top)) % 2 ^ 64 ≡ with_sign x infinity
    top_to_infinity =
        let top-signed = with_sign-sum x s.top fits in
        let infinity-signed = with_sign-sum x infinity fits in
        omega (arith, f.top_most)

    -- so either sum is rounded
    capped_sum : (cleared s.mode word x s.cut + behind) % 2 ^ 64 ≡ rounded_by s word x
    capped_sum = go (below_or_not (mag x + more) s.top)
      where
        answer : Bool → ℕ → ℕ
        answer b c = (c + cond b (infinity - s.top) 0) % 2 ^ 64

        go : (mag x + more < s.top) ⊎ (s.top ≤ mag x + more) → answer (leb (2 ^ 63) past) (cleared s.mode word x s.cut) ≡ rounded_by s word x
        go (inl stays) =
            ap (λ (b : Bool). answer b (cleared s.mode word x s.cut)) (lt-leb (2 ^ 63) past (omega (arith, f.top_most)))
            ∙ nothing_behind s.mode word x s.cut
            ∙ cleared_is_rounded stays
        go (inr over) =
            ap₂ answer (le-leb (2 ^ 63) past (omega (arith, f.top_most, sum_small))) (carry_cleared over)
            ∙ top_to_infinity
            ∙ carry_is_rounded s word x s.cut fits (omega (arith, normal)) (omega (arith, f.top_most)) place_is_cut (omega (arith, f.cut_most))
            more more_is_increment below over top_in_steps

-- ---- the two ways

module _ (s : Settings) (word x : ℕ) (fits : x < 2 ^ 64) where
  -- the limits of unsound settings ask for more than any magnitude has
  none-fits : (high : ℕ) → bit_or (less (mag x) (2 ^ 63)) high < 2 ^ 63 → ⊥
  none-fits high unfit =
      let few : mag x < 2 ^ 63 = magnitude_below x (mag x) refl in
      let least : 2 ^ 63 ≤ mag x = less-fits (mag x) (2 ^ 63) few (omega arith) (or_left_below 63 (less (mag x) (2 ^ 63)) high unfit) in
      omega arith

  -- those of sound ones ask for a number of the normal range
  fits_least : (f : Sound s) (high : ℕ) → bit_or (less (mag x) ((s.emin - 51) * 2 ^ 52)) high < 2 ^ 63 → (s.emin - 51) * 2 ^ 52 ≤ mag x
  fits_least f high unfit =
      let least = (s.emin - 51) * 2 ^ 52 in
      less-fits (mag x) least (magnitude_below x (mag x) refl) (omega (arith, f.top_most, f.top_above))
      (or_left_below 63 (less (mag x) least) high unfit)

  module _ (l : Limits) (limited : l ≡ limits s) (mode : Mode) (named : mode ≡ s.mode) (y : Swept) where
    -- what was swept, by the limits of the settings as they are
    swept_by : (way : Limits → Mode → Swept) → y ≡ way l mode → (k : Limits) → limits s ≡ k → y ≡ way k s.mode
    swept_by way swept k is = swept ∙ ap₂ way (limited ∙ is) named

    -- where nothing can come out as T
    pub plain_is_rounded : y ≡ plainly l mode word x → y.unfit < 2 ^ 63 → y.answer ≡ rounded_by s word x
    unfolding plainly
    plain_is_rounded swept fit = go (sound s) refl
      where
        way : Limits → Mode → Swept
        way k n = plainly k n word x

        go : (b : Bool) → sound s ≡ b → y.answer ≡ rounded_by s word x
        go true passed =
            let f : Sound s = sound_facts s passed in
            let is = swept_by way swept _ (limits_passed s passed) in
            let low = less (mag x) ((s.emin - 51) * 2 ^ 52) in
            let high = less (most s) (mag x) in
            let unfit : bit_or low high < 2 ^ 63 = subst (λ (z : Swept). z.unfit < 2 ^ 63) is fit in
            let few : mag x < 2 ^ 63 = magnitude_below x (mag x) refl in
            let within : mag x ≤ most s = less-fits (most s) (mag x) (omega (arith, f.top_most, most-below_top s f)) (omega arith) (or_right_below 63 low high unfit) in
            ap (λ (z : Swept). z.answer) is
            ∙ ap (cleared s.mode word x) (mod-eq_of_lt (omega (arith, f.cut_most)))
            ∙ plain_sum s f word x fits (fits_least f high unfit) within
        go false failed = absurd (none-fits (less 0 (mag x)) (subst (λ (z : Swept). z.unfit < 2 ^ 63) (swept_by way swept _ (sym (limits_else s failed))) fit))

    -- and where what comes out as T is moved on to infinity
    pub capped_is_rounded : y ≡ cappedly l mode word x → y.unfit < 2 ^ 63 → y.answer ≡ rounded_by s word x
    unfolding cappedly
    capped_is_rounded swept fit = go (sound s) refl
      where
        way : Limits → Mode → Swept
        way k n = cappedly k n word x

        go : (b : Bool) → sound s ≡ b → y.answer ≡ rounded_by s word x
        go true passed =
            let f : Sound s = sound_facts s passed in
            let is = swept_by way swept _ (limits_passed s passed) in
            let low = less (mag x) ((s.emin - 51) * 2 ^ 52) in
            let high = (mag x + (2 ^ 63 - s.top)) % 2 ^ 64 in
            let unfit : bit_or low high < 2 ^ 63 = subst (λ (z : Swept). z.unfit < 2 ^ 63) is fit in
            let few : mag x < 2 ^ 63 = magnitude_below x (mag x) refl in
            let below : mag x < s.top = omega (arith, f.top_most, or_right_below 63 low high unfit) in
            let same : s.cut % 64 ≡ s.cut = mod-eq_of_lt (omega (arith, f.cut_most)) in
            ap (λ (z : Swept). z.answer) is
            ∙ ap (λ (d : ℕ). (cleared s.mode word x d + cond (leb (2 ^ 63) ((high + added s.mode word x d) % 2 ^ 64)) (infinity - s.top) 0) % 2 ^ 64) same
            ∙ capped_sum s f word x fits (fits_least f high unfit) below
        go false failed = absurd (none-fits ((mag x + 0) % 2 ^ 64) (subst (λ (z : Swept). z.unfit < 2 ^ 63) (swept_by way swept _ (sym (limits_else s failed))) fit))
