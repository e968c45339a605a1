pub mod Tests
pub mod Fills
pub mod Compares
pub mod Order
