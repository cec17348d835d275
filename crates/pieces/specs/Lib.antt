pub mod Alone
pub mod Kinds
pub mod Lexeme
pub mod Pieces
pub mod Reader
