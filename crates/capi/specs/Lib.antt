-- What crosses to C, and what a call leaves behind.
pub mod Crossing
