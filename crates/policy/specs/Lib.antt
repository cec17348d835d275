pub mod Answers
pub mod Policies
