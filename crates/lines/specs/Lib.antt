-- One line of a job text or of its answer. `Numerals` says how a number is written in digits, and `Lines` what a line is: they are
-- what a reader has to believe. `Reading` says how the code reads a line, `Facts` what reading and writing are to each other.
-- How to read these files stands at the head of patterns/specs/Lib.antt; a text is a list of bytes, `length l` is how many entries
-- a list has, `take n l` its first n and `drop n l` the others, and `l ++ m` is l and then m. `Form` and `Found` are declared in
-- src/lib.rt, `over` in laws/specs/Lists.antt.
pub mod Numerals
pub mod Lines
pub mod Reading
pub mod Facts
