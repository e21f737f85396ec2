-- What rounding means. `Rounded` and `Calls` say it, in document 01's order: the answer's pattern, and what a call refuses and
-- answers. `BySettings` says the same answer as it is computed by settings. The modes, and where a magnitude goes, stand in
-- magnitudes/specs. How to read these files stands at the head of patterns/specs/Lib.antt.
pub mod Rounded
pub mod Calls
pub mod BySettings
