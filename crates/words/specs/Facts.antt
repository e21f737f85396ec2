-- What holds of words among bytes (document 01, "What the product covers"), as whole statements. Assumes nothing.
use Rattle.std.specs.Prelude.{false, List, ◌++◌, ◌≡◌, ℕ, ◌*◌, ◌^◌, ◌<◌, length, get_or}
use Rattle.words.specs.Bytes.{bytes_of, words_of, rest_of, ragged}

-- every entry of a list is below n
abbrev pub AllBelow : ℕ → List ℕ → Type 0
AllBelow n l = (i : ℕ) → i < length l → get_or l i 0 < n

-- ---- words and bytes

-- a word has eight bytes
abbrev pub EightBytesAWord : Type 0
EightBytesAWord = (ws : List ℕ) → length (bytes_of ws) ≡ 8 * length ws

-- what is taken out of words is bytes
abbrev pub BytesAreBytes : Type 0
BytesAreBytes = (ws : List ℕ) → AllBelow 256 (bytes_of ws)

-- and what bytes make is words
abbrev pub WordsAreWords : Type 0
WordsAreWords = (bs : List ℕ) → AllBelow 256 bs → AllBelow (2 ^ 64) (words_of bs)

-- the words among the bytes of words are those words
abbrev pub WordsOfBytes : Type 0
WordsOfBytes = (ws : List ℕ) → AllBelow (2 ^ 64) ws → words_of (bytes_of ws) ≡ ws

-- and the bytes of the words among bytes are those bytes, where none is left over
abbrev pub BytesOfWords : Type 0
BytesOfWords = (bs : List ℕ) → AllBelow 256 bs → ragged (length bs) ≡ false → bytes_of (words_of bs) ≡ bs

-- with what is left behind those words they are all of the bytes
abbrev pub BytesOfWordsAndRest : Type 0
BytesOfWordsAndRest = (bs : List ℕ) → AllBelow 256 bs → bytes_of (words_of bs) ++ rest_of bs ≡ bs
