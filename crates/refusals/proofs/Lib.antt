-- The laws on refusals.
pub mod Apart
pub mod Unique
