pub mod Answered
pub mod Breaking
pub mod Exact
pub mod Laid
pub mod Least
pub mod Meeting
pub mod Whole
