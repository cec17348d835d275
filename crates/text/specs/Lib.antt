pub mod Inside
pub mod Notes
pub mod Tokens
pub mod Verdict
