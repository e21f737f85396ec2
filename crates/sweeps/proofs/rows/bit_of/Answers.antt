-- `sweeps::rows::bit_of` meets its contract. Assumes nothing.
use Rattle.std.proofs.Common.{rules}
use Rattle.sweeps.specs.Rows.{bit_of}
use Rattle.sweeps.proofs.RowWords.{ties_to_even_bit, toward_plus_bit, toward_minus_bit, to_odd_bit, even_chance_bit}
use Rattle.sweeps.proofs.rows.bit_of.Goals as goal

pub returns-in-TiesToEven-clause-is : goal.returns-in-TiesToEven-clause-is
returns-in-TiesToEven-clause-is c = search ties_to_even_bit

pub returns-in-TiesToZero-clause-is : goal.returns-in-TiesToZero-clause-is
unfolding bit_of
returns-in-TiesToZero-clause-is c = search rules

pub returns-in-TiesToZero-clause-small : goal.returns-in-TiesToZero-clause-small
unfolding bit_of
returns-in-TiesToZero-clause-small c = search rules

pub returns-in-TiesAway-clause-is : goal.returns-in-TiesAway-clause-is
unfolding bit_of
returns-in-TiesAway-clause-is c = search rules

pub returns-in-TiesAway-clause-small : goal.returns-in-TiesAway-clause-small
unfolding bit_of
returns-in-TiesAway-clause-small c = search rules

pub returns-in-TowardZero-clause-is : goal.returns-in-TowardZero-clause-is
unfolding bit_of
returns-in-TowardZero-clause-is c = search rules

pub returns-in-TowardZero-clause-small : goal.returns-in-TowardZero-clause-small
unfolding bit_of
returns-in-TowardZero-clause-small c = search rules

pub returns-in-TowardPlus-clause-is : goal.returns-in-TowardPlus-clause-is
returns-in-TowardPlus-clause-is c = search toward_plus_bit

pub returns-in-TowardMinus-clause-is : goal.returns-in-TowardMinus-clause-is
returns-in-TowardMinus-clause-is c = search toward_minus_bit

pub returns-in-ToOdd-clause-is : goal.returns-in-ToOdd-clause-is
returns-in-ToOdd-clause-is c = search to_odd_bit

pub returns-in-Stochastic-clause-is : goal.returns-in-Stochastic-clause-is
unfolding bit_of
returns-in-Stochastic-clause-is c = search rules

pub returns-in-Stochastic-clause-small : goal.returns-in-Stochastic-clause-small
unfolding bit_of
returns-in-Stochastic-clause-small c = search rules

pub returns-in-EvenChance-clause-is : goal.returns-in-EvenChance-clause-is
returns-in-EvenChance-clause-is c = search even_chance_bit
