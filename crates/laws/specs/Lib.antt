-- The definitions that any crate may state its facts with.
pub mod Bytes
pub mod Fills
pub mod Lists
pub mod Promises
pub mod Tables
