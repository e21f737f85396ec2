-- `words::bytes::U8Entry::put` meets its contract. Assumes nothing.
use mathlib.Core.Path.{◌≡◌}
use Prim.Native.Nat.{◌+◌, ◌-◌, ◌*◌}
use native.Mathlib.Omega.{arith}
use borrow.Author.Rules.{rules}
use Rattle.words.proofs.OneWord.{word_written, rest_kept}
use Rattle.words.proofs.WordLists.{length-words_of}
use Rattle.words.proofs.bytes.U8Entry.put.Goals as goal

pub overflow_mul-at : goal.overflow_mul-at
overflow_mul-at c = let many = length-words_of c.args.bytes.now in search rules

pub overflow_add-at : goal.overflow_add-at
overflow_add-at c = let many = length-words_of c.args.bytes.now in search rules

pub slice_bounds-put_bytes-end : goal.slice_bounds-put_bytes-end
slice_bounds-put_bytes-end c = let many = length-words_of c.args.bytes.now in search rules

pub returns-then-i-count-clause-written : goal.returns-then-i-count-clause-written
returns-then-i-count-clause-written c = let eight : 8 * c.args.i + 8 - 8 * c.args.i ≡ 8 = omega arith in search (word_written, rules)

pub returns-then-i-count-clause-rest : goal.returns-then-i-count-clause-rest
returns-then-i-count-clause-rest c = let eight : 8 * c.args.i + 8 - 8 * c.args.i ≡ 8 = omega arith in search (rest_kept, rules)
