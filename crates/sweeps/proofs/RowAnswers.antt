-- What the two tables answer is the pattern rounded by the settings. Assumes nothing.
use Rattle.std.proofs.Common.{◌≡◌, ℕ, ◌+◌, ◌-◌, ◌*◌, ◌/◌, ◌%◌, ◌^◌, ◌<◌, ◌≤◌, Bool, true, false, cond, ◌⊎◌, List, get_or, sym, refl, ap, ◌∙◌, subst, ap₂, inl, inr, lt_of_le_of_lt, add-zero, mod-eq_of_lt, eq-zero-or-pos, div-mul-le_self, arith, pow_pos, pow_mono, shr_lt}
use lib.Bits.{bit_and, and_high, and_zero_r}
use Rattle.laws.proofs.Lists.{get_or-tab}
use Rattle.laws.proofs.Multiples.{clears_past, multiple_none}
use Rattle.laws.proofs.Orders.{below_or_not}
use Rattle.patterns.specs.declared.Kind.TheVariants.{Zero, Finite, NaN}
use Rattle.patterns.specs.Patterns.{sign, mag, with_sign, infinity, sig}
use Rattle.patterns.proofs.PatternKinds.{kind_zero, kind_finite, kind_nan}
use Rattle.patterns.proofs.Signs.{with_sign-sum}
use Rattle.patterns.proofs.Values.{digits_normal}
use Rattle.magnitudes.specs.declared.Mode.{Mode}
use Rattle.magnitudes.specs.declared.Settings.{Settings}
use Rattle.magnitudes.specs.Modes.{overflows}
use Rattle.magnitudes.specs.Increments.{increment}
use Rattle.magnitudes.specs.BySettings.{place, goes_to_by}
use Rattle.magnitudes.proofs.BySettings.{place_normal, place-below_normal, goes_to-infinity, goes_to-xmax}
use Rattle.magnitudes.proofs.Choices.{increment-below}
use Rattle.rounding.specs.BySettings.{rounded_by}
use Rattle.rounding.proofs.BySettings.{zero_back, nan_back, finite_rounded}
use Rattle.sweeps.specs.Limits.{sound, Sound}
use Rattle.sweeps.specs.Rules.{field_of, place_rule, place_table}
use Rattle.sweeps.specs.Rows.{bit_of, adds_share, added_behind, row_part, row_of, is_taken, row_word, row_table, added_by, by_row}
use Rattle.sweeps.proofs.Soundness.{sound_facts}
use Rattle.sweeps.proofs.Sums.{sum_is_rounded}
use Rattle.sweeps.proofs.Fields.{field_within, field_of-number, field_of-zero, listed_sound, FieldCase, kept, cleared, whole, field_case}
use Rattle.sweeps.proofs.Bits.{bit_small, row_adds, row_adds_below, row_adds_increment, overflows_by_bit}
use Rattle.sweeps.proofs.RowWords.{nothing_before, nothing_behind}
use Rattle.sweeps.proofs.RowFills.{none_cut_taken, place-taken, sign-taken, taken_word}

-- ---- what stands in the tables

-- the place of a pattern's field
listed_place : (s : Settings) (x : ℕ) (places : List ℕ) → places ≡ place_table s → get_or places (field_of x) 0 ≡ place_rule s (field_of x)
unfolding place_table
listed_place s x places is = ap (λ (l : List ℕ). get_or l (field_of x) 0) is ∙ get_or-tab 2048 (place_rule s) (field_of x) 0 (field_within x)

-- a word of the row of a place and a bit
listed_word : (s : Settings) (rows : List ℕ) → rows ≡ row_table s → (d bit part at : ℕ) → is_taken s.cut d ≡ true → d < 64 → bit < 2 → part < 4
    → at ≡ 8 * d + 4 * bit + part → get_or rows at 0 ≡ row_part s d bit part
unfolding row_table row_of
listed_word s rows is d bit part at taken few small within e =
    let place : at / 8 ≡ d = omega arith in
    ap (λ (l : List ℕ). get_or l at 0) is
    ∙ get_or-tab 512 (row_word s) at 0 (omega arith)
    ∙ taken_word s at (ap (is_taken s.cut) place ∙ taken)
    ∙ ap₂ (λ (k b : ℕ). row_part s k b (at % 4)) (omega arith) (omega arith)
    ∙ ap (row_part s d bit) (omega arith)

-- ---- the place

-- a field from zeta's on keeps a digit
place_few : (s : Settings) → Sound s → (m : ℕ) → 2 ^ 52 ≤ m → s.bottom ≤ m / 2 ^ 52 + 51 → place s.cut s.emin s.bottom m < 53
place_few s facts m normal near = go (below_or_not s.emin (m / 2 ^ 52 + 52))
  where
    go : (s.emin < m / 2 ^ 52 + 52) ⊎ (m / 2 ^ 52 + 52 ≤ s.emin) → place s.cut s.emin s.bottom m < 53
    go (inl above) =
        subst (λ (k : ℕ). k < 53) (place_normal s.cut s.emin s.bottom m (m / 2 ^ 52 + 52) (digits_normal m normal) above)
        (omega (arith, facts.cut_most))
    go (inr small) =
        subst (λ (k : ℕ). k < 53) (place-below_normal s.cut s.emin s.bottom m (m / 2 ^ 52 + 52) (digits_normal m normal) small) (omega arith)

-- no fewer digits are cut than in the normal range
place_many : (s : Settings) → Sound s → (m : ℕ) → 2 ^ 52 ≤ m → s.cut ≤ place s.cut s.emin s.bottom m
place_many s facts m normal = go (below_or_not s.emin (m / 2 ^ 52 + 52))
  where
    go : (s.emin < m / 2 ^ 52 + 52) ⊎ (m / 2 ^ 52 + 52 ≤ s.emin) → s.cut ≤ place s.cut s.emin s.bottom m
    go (inl above) =
        subst (λ (k : ℕ). s.cut ≤ k) (place_normal s.cut s.emin s.bottom m (m / 2 ^ 52 + 52) (digits_normal m normal) above) (omega arith)
    go (inr small) =
        subst (λ (k : ℕ). s.cut ≤ k) (place-below_normal s.cut s.emin s.bottom m (m / 2 ^ 52 + 52) (digits_normal m normal) small)
        (omega (arith, facts.bottom_least))

-- so the place of a field has its row
field_taken : (s : Settings) → Sound s → (q d : ℕ) → FieldCase s q d → is_taken s.cut d ≡ true
field_taken s facts q d (kept least before at) =
    let m = q * 2 ^ 52 in
    let is : d ≡ place s.cut s.emin s.bottom m = at m (omega arith) in
    let few : d < 53 = subst (λ (k : ℕ). k < 53) (sym is) (place_few s facts m (omega arith) (omega arith)) in
    let many : s.cut ≤ d = subst (λ (k : ℕ). s.cut ≤ k) (sym is) (place_many s facts m (omega arith)) in
    place-taken s.cut d many few
field_taken s facts q d (cleared past before e) = ap (is_taken s.cut) e ∙ sign-taken s.cut
field_taken s facts q d (whole last e) = ap (is_taken s.cut) e ∙ none_cut_taken s.cut

-- ---- what a row makes of a pattern

-- a mask of all bits from a place on clears those below
mask_clears : (n d : ℕ) → d ≤ 64 → n < 2 ^ 64 → bit_and n (2 ^ 64 - 2 ^ d) ≡ n / 2 ^ d * 2 ^ d
mask_clears n d few fits =
    let whole : 64 - d + d ≡ 64 = omega arith in
    ap (λ (k : ℕ). bit_and n (2 ^ k - 2 ^ d)) (sym whole)
    ∙ and_high n (64 - d) d
    ∙ ap (λ (q : ℕ). q * 2 ^ d) (mod-eq_of_lt (shr_lt (64 - d) d (subst (λ (k : ℕ). n < 2 ^ k) (sym whole) fits)))

-- a sum that leaves the sign alone is within the word
sum_within : (x i : ℕ) → x < 2 ^ 64 → mag x + i < 2 ^ 63 → x + i < 2 ^ 64
unfolding mag
sum_within x i fits below = omega arith

-- and so is what is put below the sign
fits_under_sign : (x n : ℕ) → x < 2 ^ 64 → n < 2 ^ 63 → (x / 2 ^ 63 * 2 ^ 63 + n) % 2 ^ 64 ≡ x / 2 ^ 63 * 2 ^ 63 + n % 2 ^ 63
fits_under_sign x n fits small = omega arith

-- at the place of the sign a row adds nothing before
nothing_added : (mode : Mode) (word x : ℕ) → row_adds mode word x 63 ≡ 0
unfolding added_by
nothing_added mode word x =
    ap (λ (row : ℕ). added_by mode row word 63) (sym (nothing_before mode 63 (bit_of mode word x 63) refl)) ∙ go (adds_share mode)
  where
    go : (b : Bool) → cond b (bit_and (increment mode false 0 (2 ^ 63) word) 0) 0 ≡ 0
    go true = and_zero_r (increment mode false 0 (2 ^ 63) word)
    go false = refl

-- what is added below a place goes with the digits there, where all of them are 0
clears_exact : (x i d : ℕ) → mag x % 2 ^ 52 ≡ 0 → d < 53 → i < 2 ^ d → (x + i) / 2 ^ d * 2 ^ d ≡ x
unfolding mag
clears_exact x i d exact few little =
    let q = x / 2 ^ 52 in
    let whole : x ≡ q * 2 ^ 52 = omega arith in
    ap (λ (n : ℕ). (n + i) / 2 ^ d * 2 ^ d) whole
    ∙ clears_past d 52 q i (omega arith)
    ∙ ap (λ (n : ℕ). q * 2 ^ 52 + n) (multiple_none (2 ^ d) i little)
    ∙ omega arith

module _ (s : Settings) (word x : ℕ) (fits : x < 2 ^ 64) where
  -- what a row makes of x
  abbrev answer : ℕ → ℕ
  answer d = (bit_and ((x + row_adds s.mode word x d) % 2 ^ 64) (2 ^ 64 - 2 ^ d) + added_behind s d (bit_of s.mode word x d)) % 2 ^ 64

  -- the code's answer is that of the row of the place
  row_answer : (rows : List ℕ) → rows ≡ row_table s → (d : ℕ) → is_taken s.cut d ≡ true → d < 64 → by_row s.mode rows d word x ≡ answer d
  unfolding by_row row_part
  row_answer rows is d taken few =
      let bit = bit_of s.mode word x d in
      let small = bit_small s.mode word x d fits in
      simp (
        mod-eq_of_lt few,
        listed_word s rows is d bit 0 (8 * d + 4 * bit) taken few small (omega arith) (omega arith),
        listed_word s rows is d bit 1 (8 * d + 4 * bit + 1) taken few small (omega arith) refl,
        listed_word s rows is d bit 2 (8 * d + 4 * bit + 2) taken few small (omega arith) refl,
      )

  -- ---- below the place of the sign

  module _ (d : ℕ) (few : d < 53) where
    -- what is added below the place stays there
    adds_little : row_adds s.mode word x d < 2 ^ d
    adds_little = row_adds_below s.mode word x d (omega arith)

    -- a sum within the word is cleared below the place, and nothing is added behind
    row_clears : x + row_adds s.mode word x d < 2 ^ 64 → answer d ≡ (x + row_adds s.mode word x d) / 2 ^ d * 2 ^ d
    row_clears within =
        ap₂ (λ (a b : ℕ). (a + b) % 2 ^ 64) cut (sym (nothing_behind s d (bit_of s.mode word x d) (omega arith)))
        ∙ ap (λ (n : ℕ). n % 2 ^ 64) (add-zero (sum / 2 ^ d * 2 ^ d))
        ∙ mod-eq_of_lt (lt_of_le_of_lt (div-mul-le_self sum (2 ^ d)) within)
      where
        sum : ℕ
        sum = x + row_adds s.mode word x d

        cut : bit_and (sum % 2 ^ 64) (2 ^ 64 - 2 ^ d) ≡ sum / 2 ^ d * 2 ^ d
        cut = ap (λ (n : ℕ). bit_and n (2 ^ 64 - 2 ^ d)) (mod-eq_of_lt within) ∙ mask_clears sum d (omega arith) within

    -- a number whose place it is comes out rounded
    inside : sound s ≡ true → 2 ^ 52 ≤ mag x → d ≡ place s.cut s.emin s.bottom (mag x) → mag x / 2 ^ 52 + 1 < s.top / 2 ^ 52
        → answer d ≡ rounded_by s word x
    inside ok normal at before =
        let m = mag x in
        let i = row_adds s.mode word x d in
        let facts = sound_facts s ok in
        let little : i < 2 ^ d = adds_little in
        let most : 2 ^ d ≤ 2 ^ 52 = pow_mono {i = d} {j = 52} (omega arith) in
        let below : m + i < s.top = omega arith in
        let finite : m < infinity = omega (arith, facts.top_most) in
        let is = row_adds_increment s.mode word x d fits normal few in
        row_clears (sum_within x i fits (omega (arith, facts.top_most)))
        ∙ sum_is_rounded s word x d fits (omega arith) finite at few i is below facts.top_most

    -- an exact power of two, which ends a field, stays as it is
    at_end : mag x % 2 ^ 52 ≡ 0 → mag x < infinity → answer d ≡ x
    at_end exact finite =
        let i = row_adds s.mode word x d in
        let little : i < 2 ^ d = adds_little in
        let most : 2 ^ d ≤ 2 ^ 52 = pow_mono {i = d} {j = 52} (omega arith) in
        row_clears (sum_within x i fits (omega arith)) ∙ clears_exact x i d exact few little

  -- and rounding leaves it so
  exact_rounded : (d : ℕ) → d ≡ place s.cut s.emin s.bottom (mag x) → d < 53 → 0 < mag x → mag x % 2 ^ 52 ≡ 0 → mag x + 2 ^ 52 ≤ s.top → s.top ≤ infinity
      → x ≡ rounded_by s word x
  exact_rounded d at few some exact room finite =
      let i = increment s.mode (sign x) (sig (mag x) / 2 ^ d) (2 ^ d) word in
      let little : i < 2 ^ d = increment-below s.mode (sign x) (sig (mag x) / 2 ^ d) (2 ^ d) word (pow_pos d) in
      let most : 2 ^ d ≤ 2 ^ 52 = pow_mono {i = d} {j = 52} (omega arith) in
      sym (clears_exact x i d exact few little) ∙ sum_is_rounded s word x d fits some (omega arith) at few i refl (omega arith) finite

  -- ---- at the place of the sign

  -- what a magnitude from T on becomes
  abbrev overflown : ℕ
  overflown = cond (overflows s.mode (sign x)) infinity s.xmax

  -- the sign is kept, and that is added
  sign_alone : overflown < 2 ^ 63 → answer 63 ≡ with_sign x overflown
  unfolding added_behind
  sign_alone small =
      ap₂ (λ (a b : ℕ). (a + b) % 2 ^ 64) top (ap (λ (b : Bool). cond b infinity s.xmax) (overflows_by_bit s.mode word x fits))
      ∙ fits_under_sign x overflown fits small
      ∙ with_sign-sum x overflown fits
    where
      same : (x + row_adds s.mode word x 63) % 2 ^ 64 ≡ x
      same = omega (arith, nothing_added s.mode word x)

      top : bit_and ((x + row_adds s.mode word x 63) % 2 ^ 64) (2 ^ 64 - 2 ^ 63) ≡ x / 2 ^ 63 * 2 ^ 63
      top = ap (λ (n : ℕ). bit_and n (2 ^ 64 - 2 ^ 63)) same ∙ mask_clears x 63 (omega arith) fits

  -- rounding makes just that of a finite magnitude from T on
  past_top : s.top ≤ mag x → (b : Bool) → b ≡ overflows s.mode (sign x) → cond b infinity s.xmax ≡ goes_to_by s (sign x) word (mag x)
  past_top past true over = goes_to-infinity s word x (sign x) refl (mag x) refl past true over refl
  past_top past false over = goes_to-xmax s word x (sign x) refl (mag x) refl past false over refl

  overflow_rounded : sound s ≡ true → s.top ≤ mag x → 0 < mag x → mag x < infinity → answer 63 ≡ rounded_by s word x
  overflow_rounded ok past some finite =
      finite_rounded s word x Finite (kind_finite x (mag x) refl (λ (none : mag x ≡ 0). omega arith) finite) refl overflown
      (past_top past (overflows s.mode (sign x)) refl) (answer 63)
      (sign_alone (limit_small (overflows s.mode (sign x))))
    where
      facts : Sound s
      facts = sound_facts s ok

      limit_small : (b : Bool) → cond b infinity s.xmax < 2 ^ 63
      limit_small true = omega arith
      limit_small false = omega (arith, facts.xmax_then_top, facts.top_most)

  -- ---- at place 0

  -- nothing is added, and all is kept
  all_kept : answer 0 ≡ x
  all_kept =
      let i = row_adds s.mode word x 0 in
      let none : i < 2 ^ 0 = adds_little 0 (omega arith) in
      row_clears 0 (omega arith) (omega arith) ∙ omega arith

  -- zero and the NaNs are their own answers
  zero_answer : mag x ≡ 0 → x ≡ rounded_by s word x
  zero_answer none = zero_back s word x Zero (kind_zero x (mag x) refl none) refl

  nan_answer : infinity < mag x → x ≡ rounded_by s word x
  nan_answer over =
      nan_back s word x NaN
      (kind_nan x (mag x) refl (λ (none : mag x ≡ 0). omega arith) (omega arith) (λ (e : mag x ≡ infinity). omega arith)) refl

  -- ---- by the field

  -- the pattern of a field before the last is not zero's
  field_positive : (q : ℕ) → q ≡ field_of x → q < 2047 → 0 < mag x
  field_positive q looked before = go (eq-zero-or-pos (mag x))
    where
      go : (mag x ≡ 0) ⊎ (0 < mag x) → 0 < mag x
      go (inl none) = absurd (omega (arith, field_of-zero x fits none))
      go (inr some) = some

  -- a place that the table has for the field of x is right for x
  by_field : (q d : ℕ) → q ≡ field_of x → sound s ≡ true → FieldCase s q d → answer d ≡ rounded_by s word x
  by_field q d looked ok (kept least before at) =
      let facts = sound_facts s ok in
      let some : 0 < mag x = field_positive q looked (omega (arith, facts.top_most)) in
      let in_field : q ≡ (mag x - 1) / 2 ^ 52 = looked ∙ field_of-number x fits some in
      let few : d < 53 = subst (λ (k : ℕ). k < 53) (sym (at (q * 2 ^ 52) (omega arith))) (place_few s facts (q * 2 ^ 52) (omega arith) (omega arith)) in
      go some in_field few (eq-zero-or-pos (mag x % 2 ^ 52))
    where
      go : 0 < mag x → q ≡ (mag x - 1) / 2 ^ 52 → d < 53 → (mag x % 2 ^ 52 ≡ 0) ⊎ (0 < mag x % 2 ^ 52) → answer d ≡ rounded_by s word x
      go some in_field few (inl exact) =
          let facts = sound_facts s ok in
          at_end d few exact (omega (arith, facts.top_most))
          ∙ exact_rounded (place s.cut s.emin s.bottom (mag x)) refl (place_few s facts (mag x) (omega arith) (omega arith)) some exact
          (omega arith) facts.top_most
      go some in_field few (inr rest) = inside d few ok (omega arith) (at (mag x) (omega arith)) (omega arith)
  by_field q d looked ok (cleared past before e) =
      let facts = sound_facts s ok in
      let some : 0 < mag x = field_positive q looked (omega arith) in
      let in_field : q ≡ (mag x - 1) / 2 ^ 52 = looked ∙ field_of-number x fits some in
      ap answer e ∙ overflow_rounded ok (omega (arith, facts.top_whole)) some (omega arith)
  by_field q d looked ok (whole last e) = ap answer e ∙ all_kept ∙ go (eq-zero-or-pos (mag x))
    where
      go : (mag x ≡ 0) ⊎ (0 < mag x) → x ≡ rounded_by s word x
      go (inl none) = zero_answer none
      go (inr some) =
          let in_field : q ≡ (mag x - 1) / 2 ^ 52 = looked ∙ field_of-number x fits some in
          nan_answer (omega arith)

-- The tables' answer is the rounded pattern wherever they give the pattern a place.
pub row_is_rounded : (s : Settings) (word x : ℕ) → x < 2 ^ 64 → (mode : Mode) → mode ≡ s.mode → (places rows : List ℕ)
    → places ≡ place_table s → rows ≡ row_table s → (place : ℕ) → place ≡ get_or places (field_of x) 0 → place < 64
    → (y : ℕ) → y ≡ by_row mode rows place word x → y ≡ rounded_by s word x
row_is_rounded s word x fits mode named places rows listed filled place looked within y is =
    let q = field_of x in
    let rule : place ≡ place_rule s q = looked ∙ listed_place s x places listed in
    let ok = listed_sound s q place rule within in
    is ∙ ap (λ (n : Mode). by_row n rows place word x) named ∙ row_answer s word x fits rows filled place (field_taken s (sound_facts s ok) q place (field_case s q place ok rule within)) within
    ∙ by_field s word x fits q place refl ok (field_case s q place ok rule within)
