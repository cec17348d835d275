pub mod Children
pub mod Shaped
pub mod Told
pub mod Counted
