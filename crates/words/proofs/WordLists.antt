-- Words among bytes: how many whole ones there are, what stands at a place, and where a word's bytes stand. Assumes nothing.
use mathlib.Core.Bool.{false}
use mathlib.Core.List.{List}
use mathlib.Core.Path.{◌≡◌, ap₂}
use Prim.Native.Nat.{ℕ, ◌+◌, ◌*◌, ◌/◌, ◌%◌, ◌<◌}
use native.Mathlib.Omega.{arith}
use lib.Dec.{eqb}
use lib.ListN.{length, get_or}
use borrow.Author.Tests.{not-false, eqb-true}
use Rattle.laws.specs.Bytes.{byte_of}
use Rattle.laws.proofs.Lists.{length-tab, get_or-tab}
use Rattle.words.specs.Bytes.{byte_by, word_at, words_of, ragged}

-- one for every eight bytes
pub length-words_of : (bs : List ℕ) → length (words_of bs) ≡ length bs / 8
unfolding words_of
length-words_of bs = length-tab (length bs / 8) (word_at bs)

-- each the word that stands there
pub get_or-words_of : (bs : List ℕ) (i : ℕ) → i < length bs / 8 → get_or (words_of bs) i 0 ≡ word_at bs i
unfolding words_of
get_or-words_of bs i within = get_or-tab (length bs / 8) (word_at bs) i 0 within

-- byte j of word i stands at place 8·i + j
pub byte_of-word : (g : ℕ → ℕ) (i j : ℕ) → j < 8 → byte_by g (8 * i + j) ≡ byte_of (g i) j
unfolding byte_by
byte_of-word g i j below = ap₂ (λ (k l : ℕ). byte_of (g k) l) (omega arith) (omega arith)

-- a length that is not ragged is eight times a number
pub not_ragged : (n : ℕ) → ragged n ≡ false → n % 8 ≡ 0
unfolding ragged
not_ragged n whole = eqb-true (n % 8) 0 (not-false (eqb (n % 8) 0) whole)
