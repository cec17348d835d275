pub mod Several
pub mod Model
pub mod Lawful
pub mod Block
pub mod Laws
