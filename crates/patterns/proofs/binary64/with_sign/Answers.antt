-- `patterns::binary64::with_sign` meets its contract. Assumes nothing.
use borrow.Author.Rules.{rules}
use Rattle.patterns.proofs.Signs.{with_sign-sum}
use Rattle.patterns.proofs.binary64.with_sign.Goals as goal

pub returns : goal.returns
returns c = search (with_sign-sum, rules)
