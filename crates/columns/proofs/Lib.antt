pub mod Bits
pub mod Lows
pub mod Shifts
pub mod Sets
pub mod Leasts
