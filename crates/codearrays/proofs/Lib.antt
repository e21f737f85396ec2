-- The laws on packing and unpacking arrays, a subject a file.
pub mod Converted
pub mod Decided
pub mod Facts
pub mod Outcomes
pub mod Refusals
pub mod Turns
pub mod Unique
pub mod WholeArrays
