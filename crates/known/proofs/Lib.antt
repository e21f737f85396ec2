-- What the table of known formats holds.
pub mod Cases
pub mod Formats
pub mod Unique
