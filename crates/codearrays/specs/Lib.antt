-- What an array call that packs or unpacks is. `Codes` says what is refused, reported and written: it is what a reader has to
-- believe, with reports/specs/Reports.antt, which says what the lowest refused place is. `Loops` says by which rules the code looks
-- for refused words and writes the others, and what a call comes to by such rules. How to read these files stands at the head of
-- patterns/specs/Lib.antt; `length l` is how many entries a list has, and `map g l` is what g makes of each.
pub mod Codes
pub mod Loops
