-- The laws on packing and unpacking by a layout, a subject a file.
pub mod Packings
pub mod Unique
pub mod Unpackings
