pub mod Classes
pub mod Runs
pub mod Machine
pub mod Utf8
pub mod Refusals
pub mod Names
