-- That every promise of this crate leaves one answer.
pub mod Unique
