pub mod Decimal
pub mod Specimens
