pub mod Word
pub mod Directive
pub mod Stops
