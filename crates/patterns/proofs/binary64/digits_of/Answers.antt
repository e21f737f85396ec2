-- `patterns::binary64::digits_of` meets its contract. The leading zeros of a subnormal pattern leave its digits.
-- Assumes nothing.
use lib.Count.{leading_le}
use native.Mathlib.Omega.{arith}
use mathlib.Core.Path.{◌∙◌}
use Rattle.laws.proofs.Digits.{size_leading}
use Rattle.patterns.proofs.Values.{digits_normal, digits_subnormal}
use Rattle.patterns.proofs.binary64.digits_of.Goals as goal

pub overflow_cast-result : goal.overflow_cast-result
overflow_cast-result c = omega (arith, leading_le 64 c.args.m)

pub overflow_sub-result : goal.overflow_sub-result
overflow_sub-result c = omega (arith, leading_le 64 c.args.m)

pub returns-then-m-lt-HIDDEN : goal.returns-then-m-lt-HIDDEN
returns-then-m-lt-HIDDEN c = size_leading 64 c.args.m (omega arith) ∙ digits_subnormal c.args.m (omega arith)

pub returns : goal.returns
returns c = search digits_normal
