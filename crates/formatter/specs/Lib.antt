pub mod Output
pub mod Reindents
