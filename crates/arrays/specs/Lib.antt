-- What an array call that rounds is. `Rounding` says what is refused, reported and written: it is what a reader has to believe.
-- `Loops` says what the code decides and writes on its way, and `Facts` has the words in which the facts about such calls are stated.
-- How to read these files stands at the head of patterns/specs/Lib.antt; `length l` is how many entries a list has, and `tab` stands
-- in laws/specs/Lists.antt. `Report` is declared in reports/src/lib.rt, and `report` in reports/specs/Reports.antt.
pub mod Rounding
pub mod Loops
pub mod Facts
