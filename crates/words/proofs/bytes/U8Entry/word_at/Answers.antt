-- `words::bytes::U8Entry::word_at` meets its contract. Assumes nothing.
use borrow.Author.Rules.{rules}
use Rattle.std.proofs.lemmas.List.{get_or_past}
use Rattle.words.proofs.OneWord.{word_read}
use Rattle.words.proofs.WordLists.{length-words_of}
use Rattle.words.proofs.bytes.U8Entry.word_at.Goals as goal

pub offset_bounds-words-i : goal.offset_bounds-words-i
offset_bounds-words-i c = let many = length-words_of c.args.bytes.now in search rules

pub bounds-words-i : goal.bounds-words-i
bounds-words-i c = let many = length-words_of c.args.bytes.now in search rules

pub returns-then-i-count : goal.returns-then-i-count
returns-then-i-count c = search (word_read, rules)

pub returns-else-i-count : goal.returns-else-i-count
returns-else-i-count c = search (get_or_past, rules)
