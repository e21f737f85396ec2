-- The laws on what C's numbers stand for and on calls that are passed on, and the uniqueness of the answers, a subject a file.
pub mod Cases
pub mod FormatsInNumbers
pub mod PassedOn
pub mod Unique
