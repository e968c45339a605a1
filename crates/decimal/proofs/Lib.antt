-- The laws of specs/: of the digits, and of a column for the crates above; and what the stores of
-- this crate make of a buffer.
pub mod Digits
pub mod Columns
mod Stores
pub mod Pages
