-- The worked examples of document 01: what an example says, and the starred ones as one table. How to read these files stands
-- at the head of patterns/specs/Lib.antt.
pub mod Examples
