-- A law of the layout, and what the proofs of several functions use.
pub mod Laws
mod Rows
