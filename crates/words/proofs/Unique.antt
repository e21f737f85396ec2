-- Every promise of this crate leaves one answer: one count, one word, and, where a word is put, one list of words and one rest behind
-- them. Each is an equation with the words of the array, or with its rest, so two of them meet there. Assumes nothing.
use mathlib.Core.List.{List}
use mathlib.Core.Path.{refl, sym, ap₂, ◌∙◌}
use Prim.Native.Nat.{ℕ}
use Rattle.laws.specs.Promises.{OneAnswer, OneOutcome}
use Rattle.words.specs.Bytes.{words_of, rest_of}
use Rattle.words.proofs.whole.U64Entry.count.Reads as count-u64
use Rattle.words.proofs.whole.U64Entry.word_at.Reads as word_at-u64
use Rattle.words.proofs.whole.U64Entry.put.Reads as put-u64
use Rattle.words.proofs.bytes.U8Entry.count.Reads as count-u8
use Rattle.words.proofs.bytes.U8Entry.word_at.Reads as word_at-u8
use Rattle.words.proofs.bytes.U8Entry.put.Reads as put-u8

pub count_unique : OneAnswer count-u64.Post
count_unique κs a y z s t p q = p ∙ sym q

pub count_bytes_unique : OneAnswer count-u8.Post
count_bytes_unique κs a y z s t p q = p ∙ sym q

pub word_at_unique : OneAnswer word_at-u64.Post
word_at_unique κs a y z s t p q = p ∙ sym q

pub word_at_bytes_unique : OneAnswer word_at-u8.Post
word_at_bytes_unique κs a y z s t p q = p ∙ sym q

-- what stands in the array, the first of the three parameters
pub put_unique : OneOutcome put-u64.Post (λ κs lent. lent.0.now)
put_unique κs a y z s t p q = (refl, p.0 ∙ sym q.0)

-- the words among the bytes, and what is left behind the last whole one: together they are the bytes (`same_words_and_rest`)
abbrev in_bytes : List ℕ → List ℕ × List ℕ
in_bytes bs = (words_of bs, rest_of bs)

pub put_bytes_unique : OneOutcome put-u8.Post (λ κs lent. in_bytes lent.0.now)
put_bytes_unique κs a y z s t p q = (refl, ap₂ (λ (ws left : List ℕ). (ws, left)) (p.0 ∙ sym q.0) (p.1 ∙ sym q.1))
