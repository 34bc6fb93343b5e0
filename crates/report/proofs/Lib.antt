pub mod TwoCalls
pub mod RunHistory
pub mod SummingImage
pub mod Summing
pub mod Examples
