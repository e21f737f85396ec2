-- The laws about the rounded patterns, a subject a file: first where a magnitude goes and what the answer to a pattern is,
-- then what it reads of the word, and where it lies, nearest to the input or on one side of it; then the answers with all
-- random numbers, and their total; and that every answer packs.
pub mod Destinations
pub mod Answers
pub mod Words
pub mod Nearest
pub mod Directed
pub mod Shares
pub mod Totals
pub mod Packing
pub mod Cases
