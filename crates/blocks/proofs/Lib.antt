pub mod Operands
pub mod Compares
