-- What the compares, the later pieces, a step, a walk and a list of calls come to, each from the
-- one before; Lists ends in the theorem `calls_find_all`, Mixtures in `mixed_as_next`, Stops in
-- `nothing_past`, and Callers has what other crates use. Turns and Fills have what a turn of the
-- walk comes to. The laws that the proofs of the code cite stand where their definition is treated.
pub mod Compare
pub mod Pieces
pub mod Steps
pub mod Walks
pub mod Scans
pub mod Lists
pub mod Callers
pub mod Mixtures
pub mod Stops
pub mod Turns
pub mod Fills
pub mod Refusals
