-- A format's own code, bit by bit. `Fields` says which formats have one, how wide it is, and where its three fields stand;
-- `Calls` what is refused before a code is looked at. `Layouts` has the numbers that are worked out once for a format. How to
-- read these files stands at the head of patterns/specs/Lib.antt. `Layout` is declared in src/lib.rt.
pub mod Fields
pub mod Calls
pub mod Layouts
