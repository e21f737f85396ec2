-- The laws about formats and their numbers, a subject a file.
pub mod Ranges
pub mod Steps
pub mod Places
pub mod Candidates
pub mod Neighbours
pub mod Ends
pub mod Landmarks
pub mod Unique
pub mod Cases
