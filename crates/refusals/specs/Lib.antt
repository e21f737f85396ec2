-- The refusals by number. How to read the file stands at the head of patterns/specs/Lib.antt. `Refusal` is declared in src/lib.rt.
pub mod Refusals
