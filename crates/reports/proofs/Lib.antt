-- The laws on reports.
pub mod Apart
pub mod Cases
pub mod Lowest
pub mod Unique
