-- The laws on arrays that are lent as bytes, a subject a file.
pub mod Calls
pub mod Cases
pub mod Outcomes
pub mod Ragged
pub mod SameAsWords
pub mod Unique
