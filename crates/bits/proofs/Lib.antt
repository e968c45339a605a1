-- The laws of specs/, for the proofs of this crate and of the crates above it.
pub mod Below
pub mod Lists
pub mod Numbers
