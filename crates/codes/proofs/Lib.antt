-- The laws on packing and unpacking, a subject a file.
pub mod Answers
pub mod Cases
pub mod FieldPatterns
pub mod Lifts
pub mod Magnitudes
pub mod Numbers
pub mod Orders
pub mod PackedByLayout
pub mod Parts
pub mod RoundTrips
pub mod Unique
pub mod UnpackedByLayout
pub mod WholeCalls
pub mod Widest
pub mod Worth
