-- `Laws` has what a line and a page must be; the others are for the proofs of the functions.
pub mod Columns
pub mod Lines
pub mod Refused
pub mod Laws
