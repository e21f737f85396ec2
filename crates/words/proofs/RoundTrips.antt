-- Words and their bytes undo each other: the facts that are stated in specs/Facts.antt about the two. Assumes nothing.
use mathlib.Core.Bool.{false}
use mathlib.Core.List.{List, ◌++◌}
use mathlib.Core.Path.{◌≡◌, sym, ap, ap₂, ◌∙◌, subst}
use Prim.Native.Nat.{ℕ, ◌+◌, ◌*◌, ◌/◌, ◌%◌, ◌^◌, ◌<◌}
use native.Mathlib.Nat.{mod-eq_of_lt}
use native.Mathlib.Omega.{arith}
use lib.ListN.{length, get_or, take, drop, take-append-drop}
use lib.Seq.{get_or-take, length-take-le, take_all, ext_get_or}
use Rattle.laws.specs.Bytes.{byte_of}
use Rattle.laws.specs.Lists.{sum}
use Rattle.laws.proofs.Lists.{length-tab, get_or-tab, tab_alike}
use Rattle.words.specs.Bytes.{byte_by, bytes_of, word_at, words_of, rest_of, ragged}
use Rattle.words.specs.Facts.{AllBelow, EightBytesAWord, BytesAreBytes, WordsAreWords, WordsOfBytes, BytesOfWords, BytesOfWordsAndRest}
use Rattle.words.proofs.WordLists.{length-words_of, get_or-words_of, byte_of-word, not_ragged}
use Rattle.laws.proofs.ByteDigits.{byte_below, bytes_add_up, bytes_make_below, bytes_made}

-- ---- the bytes of words

pub length-bytes_of : EightBytesAWord
unfolding bytes_of
length-bytes_of ws = length-tab (8 * length ws) (byte_by (λ (i : ℕ). get_or ws i 0))

-- what stands at a place
get_or-bytes_of : (ws : List ℕ) (k : ℕ) → k < 8 * length ws → get_or (bytes_of ws) k 0 ≡ byte_by (λ (i : ℕ). get_or ws i 0) k
unfolding bytes_of
get_or-bytes_of ws k within = get_or-tab (8 * length ws) (byte_by (λ (i : ℕ). get_or ws i 0)) k 0 within

pub bytes_are_bytes : BytesAreBytes
unfolding byte_by
bytes_are_bytes ws i within =
    subst (λ (b : ℕ). b < 256) (sym (get_or-bytes_of ws i (subst (λ (n : ℕ). i < n) (length-bytes_of ws) within)))
    (byte_below (get_or ws (i / 8) 0) (i % 8))

-- word i among them is the word they were taken from, where eight bytes hold it
word_of_bytes : (ws : List ℕ) (i : ℕ) → i < length ws → get_or ws i 0 < 2 ^ 64 → word_at (bytes_of ws) i ≡ get_or ws i 0
unfolding word_at
word_of_bytes ws i within small =
    ap sum
    (tab_alike 8 (λ (k : ℕ). get_or (bytes_of ws) (8 * i + k) 0 * 256 ^ k) (λ (k : ℕ). byte_of (get_or ws i 0) k * 256 ^ k)
    (λ k below.
    ap (λ (b : ℕ). b * 256 ^ k) (get_or-bytes_of ws (8 * i + k) (omega arith) ∙ byte_of-word (λ (j : ℕ). get_or ws j 0) i k below)))
    ∙ bytes_add_up 8 (get_or ws i 0)
    ∙ mod-eq_of_lt small

pub words_of_bytes : WordsOfBytes
words_of_bytes ws small = ext_get_or 0 (words_of (bytes_of ws)) ws many same
  where
    whole : length (bytes_of ws) / 8 ≡ length ws
    whole = let eight = length-bytes_of ws in omega arith

    many : length (words_of (bytes_of ws)) ≡ length ws
    many = length-words_of (bytes_of ws) ∙ whole

    same : (i : ℕ) → i < length (words_of (bytes_of ws)) → get_or (words_of (bytes_of ws)) i 0 ≡ get_or ws i 0
    same i h =
        let within : i < length ws = subst (λ (n : ℕ). i < n) many h in
        get_or-words_of (bytes_of ws) i (subst (λ (n : ℕ). i < n) (sym whole) within) ∙ word_of_bytes ws i within (small i within)

-- ---- the words among bytes

module _ (bs : List ℕ) (small : AllBelow 256 bs) (i : ℕ) (within : i < length bs / 8) where
  -- the eight bytes of a word are bytes
  eight_bytes : (k : ℕ) → k < 8 → get_or bs (8 * i + k) 0 < 256
  eight_bytes k below = small (8 * i + k) (omega arith)

  -- so they make a word
  word_below : word_at bs i < 2 ^ 64
  unfolding word_at
  word_below = bytes_make_below 8 (λ (k : ℕ). get_or bs (8 * i + k) 0) eight_bytes

  -- and are its bytes
  byte_of_made : (k : ℕ) → k < 8 → byte_of (word_at bs i) k ≡ get_or bs (8 * i + k) 0
  unfolding word_at
  byte_of_made = bytes_made 8 (λ (k : ℕ). get_or bs (8 * i + k) 0) eight_bytes

pub words_are_words : WordsAreWords
words_are_words bs small i h =
    let within : i < length bs / 8 = subst (λ (n : ℕ). i < n) (length-words_of bs) h in
    subst (λ (w : ℕ). w < 2 ^ 64) (sym (get_or-words_of bs i within)) (word_below bs small i within)

-- the bytes of the words among bytes are those in front of what is left
whole_bytes : (bs : List ℕ) → AllBelow 256 bs → bytes_of (words_of bs) ≡ take (8 * (length bs / 8)) bs
unfolding byte_by
whole_bytes bs small = ext_get_or 0 (bytes_of (words_of bs)) (take (8 * (length bs / 8)) bs) (many ∙ sym taken) same
  where
    taken : length (take (8 * (length bs / 8)) bs) ≡ 8 * (length bs / 8)
    taken = length-take-le (8 * (length bs / 8)) bs (omega arith)

    many : length (bytes_of (words_of bs)) ≡ 8 * (length bs / 8)
    many = length-bytes_of (words_of bs) ∙ ap (λ (n : ℕ). 8 * n) (length-words_of bs)

    same : (k : ℕ) → k < length (bytes_of (words_of bs)) → get_or (bytes_of (words_of bs)) k 0 ≡ get_or (take (8 * (length bs / 8)) bs) k 0
    same k h =
        let within : k < 8 * length (words_of bs) = subst (λ (n : ℕ). k < n) (length-bytes_of (words_of bs)) h in
        let before : k < 8 * (length bs / 8) = subst (λ (n : ℕ). k < n) many h in
        let word : k / 8 < length bs / 8 = omega arith in
        get_or-bytes_of (words_of bs) k within
        ∙ ap (λ (w : ℕ). byte_of w (k % 8)) (get_or-words_of bs (k / 8) word)
        ∙ byte_of_made bs small (k / 8) word (k % 8) (omega arith)
        ∙ ap (λ (j : ℕ). get_or bs j 0) (omega arith)
        ∙ sym (get_or-take (8 * (length bs / 8)) bs k 0 before)

pub bytes_of_words : BytesOfWords
bytes_of_words bs small whole =
    let none = not_ragged (length bs) whole in whole_bytes bs small ∙ take_all (8 * (length bs / 8)) bs (omega arith)

pub bytes_of_words_and_rest : BytesOfWordsAndRest
unfolding rest_of
bytes_of_words_and_rest bs small =
    ap (λ (l : List ℕ). l ++ drop (8 * (length bs / 8)) bs) (whole_bytes bs small) ∙ take-append-drop (8 * (length bs / 8)) bs

-- so bytes are known by their words and what is left behind these
pub same_words_and_rest : (bs cs : List ℕ) → AllBelow 256 bs → AllBelow 256 cs → words_of bs ≡ words_of cs → rest_of bs ≡ rest_of cs → bs ≡ cs
same_words_and_rest bs cs small below words rest =
    sym (bytes_of_words_and_rest bs small)
    ∙ ap₂ (λ (ws left : List ℕ). bytes_of ws ++ left) words rest
    ∙ bytes_of_words_and_rest cs below

-- bytes whose words are known are the bytes of those words, where none is left over
pub are_bytes_of : (bs : List ℕ) → ((i : ℕ) → get_or bs i 0 < 256) → ragged (length bs) ≡ false → (ws : List ℕ) → words_of bs ≡ ws → bs ≡ bytes_of ws
are_bytes_of bs small whole ws are = sym (bytes_of_words bs (λ i within. small i) whole) ∙ ap bytes_of are
