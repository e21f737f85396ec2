-- The laws, a subject a file: words among bytes, the facts of specs/Facts.antt, one word read and written, and that each promise leaves one answer.
pub mod WordLists
pub mod RoundTrips
pub mod OneWord
pub mod Unique
