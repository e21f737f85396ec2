-- What an array call reports. How to read the file stands at the head of patterns/specs/Lib.antt; `length l` is how many entries a
-- list has. `Report` and `Refused` are declared in src/lib.rt.
pub mod Reports
