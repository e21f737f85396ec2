-- The laws about rounding a pattern, a subject a file: first that what is computed is what is meant, then the laws by which the
-- code is proved. Those about magnitudes are in the crate `magnitudes`, and those about what is meant in the crate `meaning`.
pub mod Agreement
pub mod BySettings
pub mod Settings
pub mod Preparations
pub mod Refusals
pub mod WholeCalls
pub mod Unique
