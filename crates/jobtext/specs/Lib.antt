-- What a job text is answered. `Answers` says how an answer is printed, and `Runs`, up to `answer_of`, which answer a job has: they are
-- what a reader has to believe, with what they cite of the crate `arrays`, and a job and its text of the crate `jobs`. `Facts` says
-- which answer every text has, and what else holds of them. How to read these files stands at the head of patterns/specs/Lib.antt,
-- the words for texts at the head of lines/specs/Lib.antt; `replicate n x` is the list that has x n times.
pub mod Answers
pub mod Runs
pub mod Facts
