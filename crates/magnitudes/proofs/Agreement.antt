-- What is computed is what is meant: by the settings of a format in range and a mode a magnitude goes where it is meant to go.
-- The laws of Clearing.antt carry it; here the place is found to be the step's, and what is left are the inputs of which no digit
-- is kept. Assumes nothing.
use mathlib.Core.Bool.{Bool, true, false, cond}
use mathlib.Core.Path.{◌≡◌, refl, sym, ap, ap₂, ◌∙◌}
use mathlib.Core.Logic.{◌⊎◌, inl, inr}
use Prim.Native.Nat.{ℕ, ◌+◌, ◌-◌, ◌*◌, ◌/◌, ◌%◌, ◌^◌, ◌≤◌, ◌<◌, min}
use native.Mathlib.Nat.{zero-mul, zero-add, div-eq_of_lt, mod-eq_of_lt}
use native.Mathlib.Omega.{arith}
use lib.Dec.{leb, ltb, lit<}
use lib.Pow.{pow-add, pow_pos, pow_mono}
use borrow.Author.Tests.{lt-ltb, le-ltb}
use Rattle.laws.proofs.Multiples.{clears_carry}
use Rattle.laws.proofs.Orders.{below_or_not}
use Rattle.patterns.specs.Patterns.{infinity, val, ex, sig, digits_of, pat, Short}
use Rattle.places.specs.Places.{high}
use Rattle.patterns.proofs.Values.{val_small, val-pat, pat-val, pattern_below}
use Rattle.grid.specs.declared.Format.{Format}
use Rattle.grid.specs.Formats.{InRange, emin, zeta_exp, zeta, step_exp, xmax, T}
use Rattle.grid.proofs.Candidates.{candidate_short, top_short}
use Rattle.grid.proofs.Ends.{zeta_is_hi}
use Rattle.grid.proofs.Steps.{step_small}
use Rattle.grid.proofs.Places.{normal_place, small_place}
use Rattle.magnitudes.specs.declared.Mode.{Mode}
use Rattle.magnitudes.specs.Modes.{ModeFits, takes_hi, overflows}
use Rattle.magnitudes.specs.Destinations.{taken, written, goes_to}
use Rattle.magnitudes.specs.Increments.{increment}
use Rattle.magnitudes.specs.BySettings.{settings, place, kept, trace, reached, moved, goes_to_by}
use Rattle.magnitudes.proofs.BySettings.{place_normal, place-below_normal}
use Rattle.magnitudes.proofs.Clearing.{taken_is_cleared, pattern_cleared-is_taken}
use Rattle.magnitudes.proofs.Choices.{increment-below, choice_by_increment, choice_far, trace_small}

module _ (f : Format) (r : InRange f) where
  -- ---- the place is the step's, counted from the significand's last digit

  -- the place that a format's settings give
  abbrev place_of : ℕ → ℕ
  place_of m = place (53 - f.p) (emin f) (zeta_exp f) m

  -- in the normal range of the target
  place_large : (m : ℕ) → emin f < digits_of m → (place_of m ≡ 53 - f.p) × (place_of m + ex m ≡ step_exp f (digits_of m))
  place_large m h =
      let cut : place_of m ≡ 53 - f.p = sym (place_normal (53 - f.p) (emin f) (zeta_exp f) m (digits_of m) refl h) in
      (cut, ap (λ (d : ℕ). d + ex m) cut ∙ normal_place f r m h)

  -- and below it
  place_small : (m : ℕ) → digits_of m ≤ emin f → (step_exp f (digits_of m) ≡ zeta_exp f) × (place_of m + ex m ≡ step_exp f (digits_of m))
  place_small m h =
      let cut : place_of m ≡ zeta_exp f - ex m = sym (place-below_normal (53 - f.p) (emin f) (zeta_exp f) m (digits_of m) refl h) in
      (step_small f (digits_of m) h, ap (λ (d : ℕ). d + ex m) cut ∙ small_place f r m h)

  place_is_step : (m : ℕ) → place_of m + ex m ≡ step_exp f (digits_of m)
  place_is_step m = go (below_or_not (emin f) (digits_of m))
    where
      go : (emin f < digits_of m) ⊎ (digits_of m ≤ emin f) → place_of m + ex m ≡ step_exp f (digits_of m)
      go (inl h) = (place_large m h).1
      go (inr h) = (place_small m h).1

  -- where no digit is kept the step is zeta
  place_unkept : (m : ℕ) → 53 ≤ place_of m → place_of m + ex m ≡ zeta_exp f
  place_unkept m far = go (below_or_not (emin f) (digits_of m))
    where
      go : (emin f < digits_of m) ⊎ (digits_of m ≤ emin f) → place_of m + ex m ≡ zeta_exp f
      go (inl h) = let c = place_large m h in absurd (omega arith)
      go (inr h) = let c = place_small m h in c.1 ∙ c.0

-- ---- where no digit is kept

-- Where none is kept, the choice is between 0 and one step. It may be made at a nearer place, by what is left of the
-- significand there.
module _ (mode : Mode) (fits : ModeFits mode) (negative : Bool) (word n d : ℕ) (some : 0 < n) (few : n < 2 ^ 53) (far : 53 ≤ d) where
  choice_nearer : takes_hi mode negative 0 (trace n (d - min d 63)) (2 ^ min d 63) word ≡ takes_hi mode negative 0 n (2 ^ d) word
  unfolding trace high
  choice_nearer = go (below_or_not d 63)
    where
      go : (d < 63) ⊎ (63 ≤ d) → takes_hi mode negative 0 (trace n (d - min d 63)) (2 ^ min d 63) word ≡ takes_hi mode negative 0 n (2 ^ d) word
      go (inl near) =
          let same : min d 63 ≡ d = omega arith in
          let none : d - min d 63 ≡ 0 = omega arith in
          let all : trace n 0 ≡ n = omega arith in
          ap₂ (λ (x k : ℕ). takes_hi mode negative 0 x (2 ^ k) word) (ap (trace n) none ∙ all) same
      go (inr past) =
          let last : min d 63 ≡ 63 = omega arith in
          ap (λ (k : ℕ). takes_hi mode negative 0 (trace n (d - k)) (2 ^ k) word) last ∙ sym (choice_far mode negative n d word fits few past)

  reaches_nearer :
      leb (2 ^ min d 63) (trace n (d - min d 63) + increment mode negative 0 (2 ^ min d 63) word) ≡ leb (2 ^ d) (n + increment mode negative 0 (2 ^ d) word)
  unfolding trace
  reaches_nearer =
      let c = min d 63 in
      let wide : 2 ^ 53 ≤ 2 ^ c = pow_mono {i = 53} {j = c} (omega arith) in
      let wider : 2 ^ 53 ≤ 2 ^ d = pow_mono {i = 53} {j = d} far in
      let small : trace n (d - c) < 2 ^ 53 = trace_small n (d - c) few in
      sym (choice_by_increment mode negative 0 (trace n (d - c)) c word (omega arith) (omega arith))
      ∙ choice_nearer
      ∙ choice_by_increment mode negative 0 n d word some (omega arith)

module _ (f : Format) (r : InRange f) (mode : Mode) (fits : ModeFits mode) (negative : Bool) (word m : ℕ) (some : 0 < m) where
  zeta_short : Short (zeta f)
  zeta_short = candidate_short f r (zeta f) (zeta_is_hi f r).among

  unkept_value : (d : ℕ) → 53 ≤ d → d + ex m ≡ zeta_exp f
      → val (cond (reached mode negative word m d) (pat (zeta f)) 0) ≡ (sig m + increment mode negative (sig m / 2 ^ d) (2 ^ d) word) / 2 ^ d * 2 ^ d * 2 ^ ex m
  unfolding reached zeta
  unkept_value d far at =
      let D = 2 ^ d in
      let i = increment mode negative 0 D word in
      let wide : 2 ^ 53 ≤ D = pow_mono {i = 53} {j = d} far in
      let none : sig m / D ≡ 0 = div-eq_of_lt (omega arith) in
      let all : sig m % D ≡ sig m = mod-eq_of_lt (omega arith) in
      let cleared : (sig m + i) / D * D ≡ cond (leb D (sig m + i)) D 0 =
      clears_carry D (sig m) i (increment-below mode negative 0 D word (pow_pos d))
      ∙ ap₂ (λ (x y : ℕ). x * D + cond (leb D (y + i)) D 0) none all
      ∙ ap (λ (x : ℕ). x + cond (leb D (sig m + i)) D 0) (zero-mul D)
      ∙ zero-add (cond (leb D (sig m + i)) D 0) in
      ap (λ (b : Bool). val (cond b (pat (2 ^ zeta_exp f)) 0)) (reaches_nearer mode fits negative word (sig m) d (omega arith) (omega arith) far)
      ∙ go (leb D (sig m + i))
      ∙ ap (λ (x : ℕ). x * 2 ^ ex m) (sym cleared)
      ∙ ap (λ (q : ℕ). (sig m + increment mode negative q D word) / D * D * 2 ^ ex m) (sym none)
    where
      go : (b : Bool) → val (cond b (pat (2 ^ zeta_exp f)) 0) ≡ cond b (2 ^ d) 0 * 2 ^ ex m
      go true = val-pat (2 ^ zeta_exp f) zeta_short ∙ ap (λ (k : ℕ). 2 ^ k) (sym at) ∙ pow-add 2 d (ex m)
      go false = val_small 0 (lit< tt) ∙ sym (zero-mul (2 ^ ex m))

  -- ---- below T what is made is worth the candidate taken

  moved_value : val (moved (settings f mode) negative word m) ≡ taken f mode negative word (val m)
  unfolding moved kept settings high
  moved_value = go (below_or_not d 53)
    where
      d : ℕ
      d = place (53 - f.p) (emin f) (zeta_exp f) m

      made : Bool → ℕ
      made some = cond some (kept mode negative word m d) (cond (reached mode negative word m d) (pat (zeta f)) 0)

      go : (d < 53) ⊎ (53 ≤ d) → val (moved (settings f mode) negative word m) ≡ taken f mode negative word (val m)
      go (inl few) =
          ap (λ (b : Bool). val (made b)) (lt-ltb d 53 few)
          ∙ pattern_cleared-is_taken f m d (place_is_step f r m) few mode negative word
      go (inr far) =
          ap (λ (b : Bool). val (made b)) (le-ltb d 53 far)
          ∙ unkept_value d far (place_unkept f r m far)
          ∙ sym (taken_is_cleared f m d (place_is_step f r m) mode negative word)

  -- ---- so the patterns are the same

  pub goes_to_by-settings : goes_to_by (settings f mode) negative word m ≡ goes_to f mode negative word (val m)
  unfolding goes_to_by settings goes_to written
  goes_to_by-settings =
      let y = moved (settings f mode) negative word m in
      let over = cond (overflows mode negative) infinity (pat (xmax f)) in
      let worth : val y ≡ taken f mode negative word (val m) = moved_value in
      ap (λ (b : Bool). cond b (cond (ltb y (pat (T f))) y infinity) over) (pattern_below m (T f) (top_short f r))
      ∙ ap (λ (z : ℕ). cond (ltb (val m) (T f)) z over)
      (ap₂ (λ (b : Bool) (z : ℕ). cond b z infinity)
      (pattern_below y (T f) (top_short f r) ∙ ap (λ (v : ℕ). ltb v (T f)) worth)
      (sym (pat-val y) ∙ ap pat worth))
