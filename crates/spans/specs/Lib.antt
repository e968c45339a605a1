pub mod Spans
pub mod BlockFront
