pub mod Accepting
pub mod Noting
pub mod Scanning
pub mod Places
