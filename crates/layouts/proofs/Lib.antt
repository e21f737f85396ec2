-- The laws on fields and layouts, a subject a file.
pub mod Fields
pub mod Layouts
pub mod Refusals
pub mod Splits
pub mod Unique
