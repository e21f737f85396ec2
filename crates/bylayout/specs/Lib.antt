-- Packing and unpacking as they are computed. `Answers` says what a refused and an accepted answer are, `ByLayout` what is answered
-- by the numbers of a layout. What is meant is said in codes/specs. How to read these files stands at the head of
-- patterns/specs/Lib.antt.
pub mod Answers
pub mod ByLayout
