-- `patterns::binary64::power_pattern` meets its contract. Assumes nothing.
use borrow.Author.Rules.{rules}
use native.Mathlib.Omega.{arith}
use mathlib.Core.Path.{◌∙◌}
use native.Mathlib.Nat.{mod-eq_of_lt}
use Rattle.laws.proofs.Words.{one_shifted}
use Rattle.patterns.proofs.Powers.{power_small, power_large, power_infinity}
use Rattle.patterns.proofs.binary64.power_pattern.Goals as goal

pub returns-then-k-lt52 : goal.returns-then-k-lt52
returns-then-k-lt52 c = one_shifted 64 c.args.k (search rules) ∙ power_small c.args.k c.if-k-lt52.true

pub returns-then-k-lt2098 : goal.returns-then-k-lt2098
returns-then-k-lt2098 c = mod-eq_of_lt (omega arith) ∙ search power_large

pub returns : goal.returns
returns c = search power_infinity
