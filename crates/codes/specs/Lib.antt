-- What packing and unpacking mean. `Unpacking`, `Packing` and `Calls` say it: the pattern that a code stands for, by its
-- fields; the code of a pattern, by its value; and what a call refuses and answers. `Facts` has the statements about the two
-- together. The fields stand in layouts/specs/Fields.antt, and what an answer is in bylayout/specs/Answers.antt. How to read these
-- files stands at the head of patterns/specs/Lib.antt.
pub mod Unpacking
pub mod Packing
pub mod Calls
pub mod Facts
