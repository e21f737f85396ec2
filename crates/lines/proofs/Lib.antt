-- The laws about a line, a subject a file: first its bytes and numbers, then reading it and writing it, then what the two are to each
-- other, and that each promise leaves one outcome.
pub mod Texts
pub mod Forms
pub mod Numerals
pub mod Spans
pub mod Lengths
pub mod Feeds
pub mod Numbers
pub mod Runs
pub mod Keys
pub mod RoundTrips
pub mod Values
pub mod Written
pub mod Facts
pub mod Unique
