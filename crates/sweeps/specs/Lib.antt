-- What rounding at speed computes. `Limits` and `Quick` say what is rounded without a branch, `Rules` and `Rows` what goes by the
-- two tables, and `Stretches` how an array is cut, and what is known while a stretch is swept. That it is the pattern rounded by the
-- settings are the laws `plain_is_rounded`, `capped_is_rounded` and `row_is_rounded`, which all cite one law over the increment,
-- `sum_is_rounded`. How to read these files stands at the head of patterns/specs/Lib.antt. `Limits` and `Swept` are declared in
-- src/lib.rt.
pub mod Limits
pub mod Quick
pub mod Rules
pub mod Rows
pub mod Stretches
