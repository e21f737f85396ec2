-- How a magnitude is rounded. `Modes` and `Destinations` say it, in document 01's order: the nine modes and their two tables,
-- and where a magnitude goes. `Increments` and `BySettings` say the same as it is computed by settings. How to read these files
-- stands at the head of patterns/specs/Lib.antt. `Mode` and `Settings` are declared in src/lib.rt.
pub mod Modes
pub mod Destinations
pub mod Increments
pub mod BySettings
