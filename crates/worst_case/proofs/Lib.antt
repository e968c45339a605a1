-- Letters, Costs and Laws lead to the claim, each from the one before: the elements, the walk over
-- them, the slowest of all. Letters and Answers serve the proofs of the functions.
pub mod Letters
pub mod Answers
pub mod Costs
pub mod Laws
