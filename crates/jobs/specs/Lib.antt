-- A job text. `Layout` says what a job is and what its text is, and `BadLines` which line of any other text is the first bad one: they
-- are what a reader has to believe, with `Numerals` and `Lines` of the crate `lines`. `Reading` says how the code reads a text, and
-- `Facts` that it finds just that. How to read these files stands at the head of patterns/specs/Lib.antt, the words for texts at the
-- head of lines/specs/Lib.antt; `times` and `tab` stand in laws/specs/Lists.antt. A text is read as `Ok tt`, or as `Err` with its first
-- bad line, a `BadLine` of src/lib.rt.
pub mod Layout
pub mod BadLines
pub mod Reading
pub mod Facts
