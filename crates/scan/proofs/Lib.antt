pub mod Scans
pub mod Pieces
