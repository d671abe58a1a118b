pub mod Texts
pub mod Bytes
pub mod Passing
pub mod Leads
pub mod Spells
pub mod Exact
pub mod Lines
mod Terms
