-- The laws of a day (`Laws`), how entries are refused (`Refused`), and what the loops come to.
pub mod Lists
pub mod Clearing
pub mod Sorting
pub mod Places
pub mod Twice
pub mod Refused
pub mod Laws
