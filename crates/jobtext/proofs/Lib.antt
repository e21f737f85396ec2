-- The laws about answers to job texts, a subject a file: printing, running a job, what holds of every text, and
-- closed cases.
pub mod Lengths
pub mod Printed
pub mod WholeAnswers
pub mod Zeros
pub mod Spreads
pub mod Values
pub mod Texts
pub mod Refusals
pub mod Facts
pub mod Unique
pub mod Cases
