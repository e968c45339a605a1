-- The input's parts, the lines of a report and their lengths, what the stores make of a page, and
-- the loop over the matches. The proofs of the code cite these.
pub mod Inputs
pub mod Lines
pub mod Pages
pub mod Turns
pub mod Listings
