pub mod Fronts
pub mod Indexes
