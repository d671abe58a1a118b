pub mod Firsts
pub mod Endings
pub mod Stops
