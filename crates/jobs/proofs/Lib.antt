-- The laws about job texts, a subject a file: lines and what is read of them, a job and its values, the first lines of a text and the
-- first bad one, how long texts are, what the code comes to, and closed cases.
pub mod Rules
pub mod Rows
pub mod Whole
pub mod Readings
pub mod Turns
pub mod Values
pub mod Ranges
pub mod Jobs
pub mod FirstLines
pub mod Feeds
pub mod GoodLines
pub mod Facts
pub mod Sizes
pub mod Starts
pub mod Cuts
pub mod Scans
pub mod Stored
pub mod Outcomes
pub mod Unique
pub mod Cases
