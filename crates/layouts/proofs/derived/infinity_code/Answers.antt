-- `layouts::derived::infinity_code` meets its contract. Assumes nothing.
use lib.Dec.{lit≤}
use borrow.Author.Rules.{rules}
use Rattle.laws.proofs.Words.{one_shifted_some}
use Rattle.layouts.proofs.Layouts.{infinity_code_is}
use Rattle.layouts.proofs.derived.infinity_code.Goals as goal

pub overflow_sub-result : goal.overflow_sub-result
overflow_sub-result c = one_shifted_some 64 c.args.bits (search rules)

pub returns : goal.returns
returns c = search (infinity_code_is, lit≤)
