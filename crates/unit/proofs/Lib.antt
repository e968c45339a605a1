-- The theorem on valid elements with what it rests on, the law on masks, and the laws that the
-- proofs of functions cite.
pub mod Forced
pub mod ValidElements
pub mod Selection
pub mod Signs
pub mod Modes
pub mod Unit
pub mod Elements
