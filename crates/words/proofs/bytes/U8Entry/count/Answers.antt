-- `words::bytes::U8Entry::count` meets its contract. Assumes nothing.
use mathlib.Core.Path.{sym}
use Rattle.words.proofs.WordLists.{length-words_of}
use Rattle.words.proofs.bytes.U8Entry.count.Goals as goal

pub returns : goal.returns
returns c = sym (length-words_of c.args.bytes.now)
