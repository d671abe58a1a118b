pub mod Listed
pub mod Escapes
