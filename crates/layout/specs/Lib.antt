pub mod Layouts
pub mod Lines
pub mod Placers
pub mod Questions
pub mod Standing
pub mod Text
pub mod Writers
