-- What C's numbers stand for. `Formats` has a format as three numbers, and a known format as C gets it. What is reported and written
-- is defined where the array calls are: arrays/specs/Rounding.antt and codearrays/specs/Codes.antt for words, and
-- bytearrays/specs/Calls.antt for bytes. How to read these files stands at the head of patterns/specs/Lib.antt.
pub mod Formats
