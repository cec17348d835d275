pub mod Gets
