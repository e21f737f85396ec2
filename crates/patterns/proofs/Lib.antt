-- The laws about binary64 patterns, a subject a file.
pub mod Values
pub mod PatternKinds
pub mod Signs
pub mod Powers
pub mod Unique
pub mod Cases
