-- The laws about rounding at speed, a subject a file: first the settings that allow it, then the one law over the increment, then the
-- sweep, then the two tables, then stretches of an array, and that each promise leaves one answer.
pub mod Soundness
pub mod Fitting
pub mod Sums
pub mod Steadiness
pub mod QuickAnswers
pub mod Fields
pub mod Painting
pub mod RowWords
pub mod RowFills
pub mod Bits
pub mod RowAnswers
pub mod StretchEnds
pub mod Stretched
pub mod Unique
