pub mod Cases
pub mod Tabled
pub mod RunLaws
pub mod Encoded
pub mod Language
pub mod Faults
pub mod Listing
