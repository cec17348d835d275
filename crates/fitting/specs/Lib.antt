pub mod Answers
pub mod Fitting
pub mod Laws
pub mod Turns
