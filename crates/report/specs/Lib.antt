-- Read in this order: the report, then the worked examples. `Writers` is for private contracts.
pub mod Report
pub mod Specimens
pub mod Writers
