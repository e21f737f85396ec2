-- Words in an array: one an entry, or one in eight bytes. `Bytes` says how words stand among bytes, and `Facts` what holds of the two.
-- `Entry`, by which one loop serves both, is declared in src/lib.rt.
pub mod Bytes
pub mod Facts
