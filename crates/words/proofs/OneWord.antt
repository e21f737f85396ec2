-- One word among bytes, as the code reads and writes it: eight bytes that stand together. Assumes nothing.
use mathlib.Core.Bool.{Bool, true, false}
use mathlib.Core.List.{List, []}
use mathlib.Core.Logic.{◌⊎◌, inl, inr}
use mathlib.Core.Path.{◌≡◌, refl, sym, ap, ap₂, ◌∙◌, subst}
use Prim.Native.Nat.{ℕ, zero, suc, ◌+◌, ◌-◌, ◌*◌, ◌/◌, ◌%◌, ◌^◌, ◌≤◌, ◌<◌}
use native.Mathlib.Nat.{not-suc-le-zero, le_of_suc-le-suc, mul-zero, mul-suc, add_comm, zero-add, add-zero, div-one, mod-eq_of_lt}
use native.Mathlib.Omega.{arith}
use lib.Dec.{eqb}
use lib.ListN.{length, get_or, set, take, drop, length-set, length-drop}
use lib.Lanes.{put_chunk}
use lib.Seq.{get_or-take, get_or-drop, drop-drop, get_or-set_same, get_or-set_other, ext_get_or}
use mir.Syntax.{w64}
use borrow.Author.Tests.{eqb-true, eqb-false}
use Rattle.std.specs.Int.{from_le_bytes, to_le_bytes, bytes_low_first, byte_at}
use Rattle.std.specs.Simd.{first_chunks}
use Rattle.std.proofs.lemmas.Simd.{put_chunk_is, length-put_chunk, get_or-put_chunk_below, get_or-put_chunk_at, get_or-put_chunk_above}
use borrow.Rule.Slice.PartMut.{put_mid}
use Rattle.laws.specs.Bytes.{byte_of}
use Rattle.laws.specs.Lists.{tab, sum}
use Rattle.laws.proofs.ByteDigits.{bytes_add_up}
use Rattle.laws.proofs.Lists.{tab_alike}
use Rattle.laws.proofs.Orders.{below_or_not}
use Rattle.words.specs.Bytes.{word_at, words_of, rest_of}
use Rattle.words.proofs.WordLists.{length-words_of, get_or-words_of}

-- ---- a word read

-- chunk i of a list that is cut in chunks of n
chunk_at : (n k : ℕ) (xs : List ℕ) (i : ℕ) → i < k → get_or (first_chunks n k xs) i [] ≡ take n (drop (n * i) xs)
chunk_at n zero xs i h = absurd (not-suc-le-zero h)
chunk_at n (suc k) xs zero h = ap (λ (m : ℕ). take n (drop m xs)) (sym (mul-zero n))
chunk_at n (suc k) xs (suc i) h =
    chunk_at n k (drop n xs) i (le_of_suc-le-suc h)
    ∙ ap (take n) (drop-drop (n * i) n xs ∙ ap (λ (m : ℕ). drop m xs) (add_comm n (n * i) ∙ sym (mul-suc n i)))

-- eight bytes, the low one first, are worth what their places are
eight_worth : (c : List ℕ) → from_le_bytes w64 c ≡ sum (tab 8 (λ (k : ℕ). get_or c k 0 * 256 ^ k))
unfolding sum
eight_worth c = omega arith

module _ (bs : List ℕ) (i : ℕ) (there : i < length bs / 8) where
  abbrev chunk : List ℕ
  chunk = get_or (first_chunks 8 (length bs / 8) bs) i []

  byte_read : (k : ℕ) → k < 8 → get_or chunk k 0 ≡ get_or bs (8 * i + k) 0
  byte_read k below =
      ap (λ (c : List ℕ). get_or c k 0) (chunk_at 8 (length bs / 8) bs i there)
      ∙ get_or-take 8 (drop (8 * i) bs) k 0 below
      ∙ get_or-drop (8 * i) bs k 0

  chunk_worth : from_le_bytes w64 chunk ≡ word_at bs i
  unfolding word_at
  chunk_worth =
      eight_worth chunk
      ∙ ap sum
      (tab_alike 8 (λ (k : ℕ). get_or chunk k 0 * 256 ^ k) (λ (k : ℕ). get_or bs (8 * i + k) 0 * 256 ^ k)
      (λ k below. ap (λ (b : ℕ). b * 256 ^ k) (byte_read k below)))

-- a chunk's number is the word that stands there
pub word_read : (bs : List ℕ) (i : ℕ) → i < length (words_of bs)
    → (chunks : List (List ℕ)) → chunks ≡ first_chunks 8 (length bs / 8) bs → (w : ℕ) → w ≡ from_le_bytes w64 (get_or chunks i [])
    → w ≡ get_or (words_of bs) i 0
word_read bs i within chunks are w is =
    let there : i < length bs / 8 = subst (λ (n : ℕ). i < n) (length-words_of bs) within in
    is ∙ ap (λ (cs : List (List ℕ)). from_le_bytes w64 (get_or cs i [])) are ∙ chunk_worth bs i there ∙ sym (get_or-words_of bs i there)

-- ---- a word written

-- byte k of those that are written
written_byte : (k n i w : ℕ) → k < n → get_or (bytes_low_first i n w) k 0 ≡ byte_at (i + k) w
written_byte k zero i w h = absurd (not-suc-le-zero h)
written_byte zero (suc n) i w h = ap (λ (j : ℕ). byte_at j w) (sym (add-zero i))
written_byte (suc k) (suc n) i w h = written_byte k n (suc i) w (le_of_suc-le-suc h) ∙ ap (λ (j : ℕ). byte_at j w) (omega arith)

is_byte_of : (k w : ℕ) → byte_at k w ≡ byte_of w k
unfolding byte_of
is_byte_of zero w = ap (λ (x : ℕ). x % 256) (sym (div-one w))
is_byte_of (suc k) w = refl

module _ (bs : List ℕ) (i w : ℕ) (there : i < length bs / 8) (small : w < 2 ^ 64) where
  abbrev after : List ℕ
  after = put_chunk (8 * i) bs (to_le_bytes w64 w)

  word_there : word_at after i ≡ w
  unfolding word_at
  word_there =
      ap sum
      (tab_alike 8 (λ (k : ℕ). get_or after (8 * i + k) 0 * 256 ^ k) (λ (k : ℕ). byte_of w k * 256 ^ k)
      (λ k below.
      ap (λ (b : ℕ). b * 256 ^ k)
      (get_or-put_chunk_at (8 * i) bs (to_le_bytes w64 w) k 0 below (omega arith)
      ∙ written_byte k 8 0 w below
      ∙ ap (λ (j : ℕ). byte_at j w) (zero-add k)
      ∙ is_byte_of k w)))
      ∙ bytes_add_up 8 w
      ∙ mod-eq_of_lt small

  other_word : (j : ℕ) → (j ≡ i → ⊥) → word_at after j ≡ word_at bs j
  unfolding word_at
  other_word j other =
      ap sum
      (tab_alike 8 (λ (k : ℕ). get_or after (8 * j + k) 0 * 256 ^ k) (λ (k : ℕ). get_or bs (8 * j + k) 0 * 256 ^ k)
      (λ k below. ap (λ (b : ℕ). b * 256 ^ k) (go k below (below_or_not j i))))
    where
      go : (k : ℕ) → k < 8 → (j < i) ⊎ (i ≤ j) → get_or after (8 * j + k) 0 ≡ get_or bs (8 * j + k) 0
      go k below (inl less) = get_or-put_chunk_below (8 * i) bs (to_le_bytes w64 w) (8 * j + k) 0 (omega arith)
      go k below (inr more) = get_or-put_chunk_above (8 * i) bs (to_le_bytes w64 w) (8 * j + k) 0 (omega (arith, other))

  words_after : words_of after ≡ set (words_of bs) i w
  words_after = ext_get_or 0 (words_of after) (set (words_of bs) i w) (many ∙ sym (length-set (words_of bs) i w)) same
    where
      many : length (words_of after) ≡ length (words_of bs)
      many =
          length-words_of after
          ∙ ap (λ (n : ℕ). n / 8) (length-put_chunk (8 * i) bs (to_le_bytes w64 w))
          ∙ sym (length-words_of bs)

      same : (j : ℕ) → j < length (words_of after) → get_or (words_of after) j 0 ≡ get_or (set (words_of bs) i w) j 0
      same j h =
          let within : j < length (words_of bs) = subst (λ (n : ℕ). j < n) many h in
          let before : j < length bs / 8 = subst (λ (n : ℕ). j < n) (length-words_of bs) within in
          let now : j < length after / 8 = subst (λ (n : ℕ). j < n) (length-words_of after) h in
          get_or-words_of after j now ∙ go (eqb j i) (eqb-true j i) (eqb-false j i) within before
        where
          go : (b : Bool) → (b ≡ true → j ≡ i) → (b ≡ false → j ≡ i → ⊥) → j < length (words_of bs) → j < length bs / 8
              → word_at after j ≡ get_or (set (words_of bs) i w) j 0
          go true is isnt within before =
              ap (word_at after) (is refl) ∙ word_there
              ∙ sym (ap (λ (k : ℕ). get_or (set (words_of bs) i w) k 0) (is refl) ∙ get_or-set_same (words_of bs) i w 0 (subst (λ (k : ℕ). k < length (words_of bs)) (is refl) within))
          go false is isnt within before =
              other_word j (isnt refl) ∙ sym (get_or-words_of bs j before) ∙ sym (get_or-set_other (words_of bs) i j w 0 (isnt refl))

  rest_after : rest_of after ≡ rest_of bs
  unfolding rest_of
  rest_after = ap (λ (n : ℕ). drop (8 * (n / 8)) after) long ∙ ext_get_or 0 (drop m after) (drop m bs) left same
    where
      m : ℕ
      m = 8 * (length bs / 8)

      long : length after ≡ length bs
      long = length-put_chunk (8 * i) bs (to_le_bytes w64 w)

      left : length (drop m after) ≡ length (drop m bs)
      left = length-drop m after ∙ ap (λ (n : ℕ). n - m) long ∙ sym (length-drop m bs)

      same : (k : ℕ) → k < length (drop m after) → get_or (drop m after) k 0 ≡ get_or (drop m bs) k 0
      same k h =
          get_or-drop m after k 0
          ∙ get_or-put_chunk_above (8 * i) bs (to_le_bytes w64 w) (m + k) 0 (omega arith)
          ∙ sym (get_or-drop m bs k 0)

-- the bytes of a word, put in the place of the eight from byte 8·i on, put the word there,
pub word_written : (bs : List ℕ) (i : ℕ) → i < length (words_of bs) → (w : ℕ) → w < 2 ^ 64 → (n : ℕ) → n ≡ 8
    → (part : List ℕ) → part ≡ to_le_bytes w64 w → words_of (put_mid (8 * i) n bs part) ≡ set (words_of bs) i w
word_written bs i within w small n eight part is =
    let there : i < length bs / 8 = subst (λ (m : ℕ). i < m) (length-words_of bs) within in
    ap₂ (λ (l : List ℕ) (m : ℕ). words_of (put_mid (8 * i) m bs l)) is eight
    ∙ ap words_of (sym (put_chunk_is (8 * i) bs (to_le_bytes w64 w) (omega (arith, there))))
    ∙ words_after bs i w there small

-- and leave what stands behind the words as it was
pub rest_kept : (bs : List ℕ) (i : ℕ) → i < length (words_of bs) → (w : ℕ) → w < 2 ^ 64 → (n : ℕ) → n ≡ 8
    → (part : List ℕ) → part ≡ to_le_bytes w64 w → rest_of (put_mid (8 * i) n bs part) ≡ rest_of bs
rest_kept bs i within w small n eight part is =
    let there : i < length bs / 8 = subst (λ (m : ℕ). i < m) (length-words_of bs) within in
    ap₂ (λ (l : List ℕ) (m : ℕ). rest_of (put_mid (8 * i) m bs l)) is eight
    ∙ ap rest_of (sym (put_chunk_is (8 * i) bs (to_le_bytes w64 w) (omega (arith, there))))
    ∙ rest_after bs i w there small
