-- Read in this order: what the calls write and refuse, what no search can pass, then the worked
-- cases.
pub mod Cases
pub mod Most
pub mod Specimens
