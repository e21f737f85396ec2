-- The laws about rounding a magnitude, a subject a file: first the choice between lo and hi, then that what is computed is what
-- is meant, then the laws by which the code is proved. What is meant has its laws in the crate `meaning`.
pub mod Choices
pub mod Clearing
pub mod Agreement
pub mod ModeTables
pub mod Increments
pub mod BySettings
pub mod Unique
