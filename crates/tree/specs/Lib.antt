pub mod Covering
pub mod Fits
pub mod Forest
pub mod Parts
pub mod Pieces
pub mod Slots
pub mod Terminals
pub mod Walks
