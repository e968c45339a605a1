-- What the proofs of several functions use, and what is said of the calls for C.
pub mod Slowest
