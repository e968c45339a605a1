-- Laws that belong to no one function of this crate.
pub mod Widths
