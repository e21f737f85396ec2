-- The laws about array calls, a subject a file: first those by which the code is proved, then what a place depends on, parts of
-- arrays, the total of stochastic rounding, and closed cases.
pub mod Accepted
pub mod Refusals
pub mod UnreadWords
pub mod Turns
pub mod Sweeps
pub mod Outcomes
pub mod WholeCalls
pub mod Unique
pub mod Places
pub mod Cuts
pub mod Totals
pub mod Cases
