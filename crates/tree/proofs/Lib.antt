pub mod Forests
pub mod Naming
pub mod Steps
pub mod Tops
pub mod Waits
pub mod Walking
