pub mod Counts
pub mod Trees
pub mod Parts
pub mod Telling
