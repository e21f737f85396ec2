-- The laws, a subject a file.
pub mod ByteDigits
pub mod Digits
pub mod Fills
pub mod Lists
pub mod Multiples
pub mod Orders
pub mod Overlays
pub mod Scales
pub mod Sums
pub mod Tables
pub mod Tests
pub mod Words
