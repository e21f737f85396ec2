-- Writing the second table, row after row. Assumes nothing.
use Rattle.std.proofs.Common.{◌≡◌, ℕ, ◌+◌, ◌-◌, ◌*◌, ◌/◌, ◌%◌, ◌^◌, ◌<◌, ◌≤◌, Bool, true, false, cond, leb, ◌⊎◌, List, length, set, refl, ap, ◌∙◌, subst, ap₂, inl, inr, eq-zero-or-pos, arith, length-set, pow_pos, w64, Fits, le-ltb, lt-ltb, le-leb}
use borrow.Author.Tests.{lt-leb}
use Rattle.laws.specs.Fills.{FilledTo}
use Rattle.laws.proofs.Fills.{filled_none, filled_all}
use Rattle.laws.proofs.Words.{one_shifted, one_shifted_some}
use Rattle.magnitudes.specs.declared.Settings.{Settings}
use Rattle.sweeps.specs.Rules.{Painted}
use Rattle.sweeps.specs.Rows.{added_before, added_behind, row_part, row_of, first_place, is_taken, row_word, row_table}
use Rattle.sweeps.proofs.Painting.{painted_none, painted_more}

-- ---- a row

-- the place of a row is one of a word's, so its bit is there
pub row_place : (i : ℕ) → i < 128 → 1 ≤ 1 * 2 ^ (i / 2) % 2 ^ 64
row_place i within = one_shifted_some 64 (i / 2) (omega arith)

-- what is kept from a place on
kept_word : (d : ℕ) → d < 64 → 2 ^ 64 - 1 - (1 * 2 ^ d % 2 ^ 64 - 1) ≡ 2 ^ 64 - 2 ^ d
kept_word d fits = omega (arith, one_shifted 64 d fits, pow_pos d)

module _ (s : Settings) (i : ℕ) where
  -- the words of row i have the places from 4 * i on
  word_at : (part : ℕ) → part < 4 → row_part s (i / 2) (i % 2) part ≡ row_of s (4 * i + part)
  unfolding row_of
  word_at part few =
      ap₂ (λ (d bit : ℕ). row_part s d bit part) (omega arith) (omega arith) ∙ ap (row_part s ((4 * i + part) / 8) ((4 * i + part) / 4 % 2)) (omega arith)

  -- the next of them stored
  next_word : (l₀ l : List ℕ) (part y : ℕ) → part < 4 → i < 128 → length l ≡ 512 → y ≡ row_part s (i / 2) (i % 2) part
      → Painted (row_of s) (4 * i) (4 * i + part) l₀ l → Painted (row_of s) (4 * i) (4 * i + (part + 1)) l₀ (set l (4 * i + part) y)
  next_word l₀ l part y few within long is painted =
      subst (λ (n : ℕ). Painted (row_of s) (4 * i) n l₀ (set l (4 * i + part) y)) (omega arith)
      (painted_more (row_of s) (4 * i) l₀ l (4 * i + part) (omega arith) painted 512 512 long (omega arith) (omega arith) y (is ∙ word_at part few))

  -- all four stored, as the code does it
  pub row_stored : (l : List ℕ) (b c : ℕ) → i < 128 → length l ≡ 512 → b ≡ added_before s.mode (i / 2) (i % 2) → c ≡ added_behind s (i / 2) (i % 2)
      → Painted (row_of s) (4 * i) (4 * (i + 1)) l (set (set (set (set l (4 * i) (2 ^ 64 - 1 - (1 * 2 ^ (i / 2) % 2 ^ 64 - 1))) (4 * i + 1) b) (4 * i + 2) c) (4 * i + 3) 0)
  unfolding row_part
  row_stored l b c within long before behind =
      subst (λ (n : ℕ). Painted (row_of s) (4 * i) n l l4) (omega arith)
      (next_word l l3 3 0 (omega arith) within (simp length-set long) refl
      (next_word l l2 2 c (omega arith) within (simp length-set long) behind
      (next_word l l1 1 b (omega arith) within (simp length-set long) before first)))
    where
      a : ℕ
      a = 2 ^ 64 - 1 - (1 * 2 ^ (i / 2) % 2 ^ 64 - 1)

      l1 : List ℕ
      l1 = set l (4 * i) a

      l2 : List ℕ
      l2 = set l1 (4 * i + 1) b

      l3 : List ℕ
      l3 = set l2 (4 * i + 2) c

      l4 : List ℕ
      l4 = set l3 (4 * i + 3) 0

      first : Painted (row_of s) (4 * i) (4 * i + 1) l l1
      first =
          painted_more (row_of s) (4 * i) l l (4 * i) (omega arith) (painted_none (row_of s) (4 * i) l) 512 512 long (omega arith) (omega arith) a
          (kept_word (i / 2) (omega arith) ∙ word_at 0 (omega arith) ∙ ap (row_of s) (omega arith))

-- ---- the whole table

-- where the first place past 0 lies
module _ (cut first : ℕ) (e : first ≡ first_place cut) where
  pub first_fits : Fits w64 (2 * first)
  unfolding first_place
  first_fits = record { fits = omega arith }

  pub first_some : 2 ≤ 2 * first
  unfolding first_place
  first_some = omega arith

  pub first_within : 2 * first ≤ 128
  unfolding first_place
  first_within = omega arith

  pub first_few : 2 * first ≤ 106
  unfolding first_place
  first_few = omega arith

-- which places are taken
module _ (cut : ℕ) where
  pub none_cut_taken : is_taken cut 0 ≡ true
  unfolding is_taken
  none_cut_taken = refl

  module _ (d : ℕ) where
    free_below : 1 ≤ d → d < first_place cut → is_taken cut d ≡ false
    unfolding is_taken
    free_below some h = simp (le-ltb d 1 some, lt-ltb d (first_place cut) h)

    from_first : 1 ≤ d → first_place cut ≤ d → d < 53 → is_taken cut d ≡ true
    unfolding is_taken
    from_first some reached h = simp (le-ltb d 1 some, le-ltb d (first_place cut) reached, lt-ltb d 53 h)

    past_digits : first_place cut ≤ d → 53 ≤ d → is_taken cut d ≡ leb 63 d
    unfolding is_taken
    past_digits reached past = simp (le-ltb d 1 (omega arith), le-ltb d (first_place cut) reached, le-ltb d 53 past)

    free_between : first_place cut ≤ d → 53 ≤ d → d < 63 → is_taken cut d ≡ false
    free_between reached past h = past_digits reached past ∙ lt-leb 63 d h

    from_sign : first_place cut ≤ d → 63 ≤ d → is_taken cut d ≡ true
    from_sign reached past = past_digits reached (omega arith) ∙ le-leb 63 d past

    -- those from the cut on, up to the one in front of the fraction,
    pub place-taken : cut ≤ d → d < 53 → is_taken cut d ≡ true
    unfolding first_place
    place-taken many few = go (eq-zero-or-pos d)
      where
        go : (d ≡ 0) ⊎ (0 < d) → is_taken cut d ≡ true
        go (inl none) = ap (is_taken cut) none ∙ none_cut_taken
        go (inr some) = from_first some (omega arith) few

  -- and the sign's
  pub sign-taken : is_taken cut 63 ≡ true
  unfolding first_place
  sign-taken = from_sign 63 (omega arith) (omega arith)

module _ (s : Settings) where
  -- a word of the table by its place
  pub taken_word : (at : ℕ) → is_taken s.cut (at / 8) ≡ true → row_word s at ≡ row_of s at
  unfolding row_word
  taken_word at taken = ap (λ (b : Bool). cond b (row_of s at) 0) taken

  blank_word : (at : ℕ) → is_taken s.cut (at / 8) ≡ false → row_word s at ≡ 0
  unfolding row_word
  blank_word at free = ap (λ (b : Bool). cond b (row_of s at) 0) free

  -- rows and blanks in turn make the table
  pub rows_filled : (place first : ℕ) → place ≡ first_place s.cut → first ≡ 2 * place → (l l₁ l₂ l₃ l₄ l₅ : List ℕ)
      → Painted (row_of s) (4 * 0) (4 * 2) l l₁ → Painted (λ k. 0) (4 * 2) (4 * first) l₁ l₂ → Painted (row_of s) (4 * first) (4 * 106) l₂ l₃
      → Painted (λ k. 0) (4 * 106) (4 * 126) l₃ l₄ → Painted (row_of s) (4 * 126) (4 * 128) l₄ l₅ → length l₅ ≡ 512
      → l₅ ≡ row_table s
  unfolding row_table
  rows_filled place first e twice l l₁ l₂ l₃ l₄ l₅ nothing-cut skip from_cut gap sign long =
      let some : 2 ≤ 2 * place = first_some s.cut place e in
      let few : 2 * place ≤ 106 = first_few s.cut place e in
      filled_all g 512 l₅ long
      (sign.on g (λ k least below. taken_word k (from_sign s.cut (k / 8) (omega arith) (omega arith)))
      (gap.on g (λ k least below. blank_word k (free_between s.cut (k / 8) (omega arith) (omega arith) (omega arith)))
      (so_far l₃ (omega arith)
      (from_cut.on g (λ k least below. taken_word k (from_first s.cut (k / 8) (omega arith) (omega arith) (omega arith)))
      (so_far l₂ (omega arith)
      (skip.on g (λ k least below. blank_word k (free_below s.cut (k / 8) (omega arith) (omega arith)))
      (nothing-cut.on g (λ k least below. taken_word k (ap (is_taken s.cut) (omega arith) ∙ none_cut_taken s.cut)) (filled_none g l))))))))
    where
      g : ℕ → ℕ
      g = row_word s

      so_far : (k : List ℕ) {m n : ℕ} → m ≡ n → FilledTo g m k → FilledTo g n k
      so_far k same filled = subst (λ (t : ℕ). FilledTo g t k) same filled
