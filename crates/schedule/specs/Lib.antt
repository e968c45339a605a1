-- The day, what days must be, and worked days. `Places` is for private contracts.
pub mod Days
pub mod Schedules
pub mod Places
pub mod Specimens
