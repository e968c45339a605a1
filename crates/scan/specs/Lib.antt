-- Read in this order: the scan, then the test for four letters that its private functions make.
pub mod Scan
pub mod Letters
