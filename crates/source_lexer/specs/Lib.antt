pub mod Marks
pub mod Token
pub mod Chosen
pub mod Laws
pub mod Lone
pub mod Pages
pub mod Reader
