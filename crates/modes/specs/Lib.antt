-- What the contracts of this crate cite of its own.
pub mod Widths
