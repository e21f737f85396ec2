-- What an array call on bytes is. `Calls` says what is refused, reported and written, by what the same call on words reports and
-- leaves: it is what a reader has to believe, with those definitions (arrays/specs/Rounding.antt, codearrays/specs/Codes.antt) and with
-- how words stand among bytes (words/specs/Bytes.antt). `Facts` says what holds of calls on bytes. How to read these files stands at the head of patterns/specs/Lib.antt;
-- `byte_of` stands in laws/specs/Bytes.antt, `tab` and `sum` in laws/specs/Lists.antt, `length l` is how many entries a list has,
-- and `take n l` is its first n.
pub mod Calls
pub mod Facts
