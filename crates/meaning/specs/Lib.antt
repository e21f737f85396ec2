-- What facts about the answers are stated with: `Facts` has the words for the single answer, and `Totals` those for the total
-- of many, which is demand 3. No contract cites them. How to read these files stands at the head of patterns/specs/Lib.antt. ℤ are
-- the whole numbers with a sign: `pos n` is n, `neg_ℤ` turns the sign round, and `+ℤ` adds. `map g l` has g of each entry of l.
-- `below` and `times` stand in laws/specs/Lists.antt.
pub mod Facts
pub mod Totals
