-- Read in this order: the page, what it must be, then the worked pages. `Writers` is for private
-- contracts.
pub mod Pages
pub mod Aligned
pub mod Specimens
pub mod Writers
