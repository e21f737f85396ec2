-- What is rounded to. Read in the order of the lines below: a target format, what the format holds, and the two neighbours
-- that a rounding chooses from. How to read these files stands at the head of patterns/specs/Lib.antt. `Format` is declared
-- in src/lib.rt.
pub mod Formats
pub mod Candidates
pub mod Neighbours
