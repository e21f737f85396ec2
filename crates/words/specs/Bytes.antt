-- Words among bytes: eight bytes a word, the low byte first (document 01, "What the product covers"). Assumes nothing.
use Rattle.std.specs.Prelude.{Bool, not, ◌||◌, List, ℕ, ◌+◌, ◌*◌, ◌/◌, ◌%◌, ◌^◌, eqb, length, get_or, drop}
use Rattle.laws.specs.Bytes.{byte_of}
use Rattle.laws.specs.Lists.{tab, sum}

-- byte k of the words that a rule gives: byte k % 8 of word k / 8
unfoldable pub byte_by : (ℕ → ℕ) → ℕ → ℕ
byte_by g k = byte_of (g (k / 8)) (k % 8)

-- the bytes of words, eight for each
unfoldable pub bytes_of : List ℕ → List ℕ
bytes_of ws = tab (8 * length ws) (byte_by (λ (i : ℕ). get_or ws i 0))

-- word i among bytes: its eight bytes stand from place 8·i on, each worth 256 times as much as if it stood one place lower
unfoldable pub word_at : List ℕ → ℕ → ℕ
word_at bs i = sum (tab 8 (λ (k : ℕ). get_or bs (8 * i + k) 0 * 256 ^ k))

-- the whole words among bytes: what is left behind them counts for nothing
unfoldable pub words_of : List ℕ → List ℕ
words_of bs = tab (length bs / 8) (word_at bs)

-- and what is left behind them: up to seven bytes
unfoldable pub rest_of : List ℕ → List ℕ
rest_of bs = drop (8 * (length bs / 8)) bs

-- a length that is no whole number of words
unfoldable pub ragged : ℕ → Bool
ragged n = not (eqb (n % 8) 0)

-- the length of an input or of its output is ragged
abbrev pub one_ragged : ℕ → ℕ → Bool
one_ragged inputs outputs = ragged inputs || ragged outputs
