-- That the starred examples hold.
pub mod Starred
