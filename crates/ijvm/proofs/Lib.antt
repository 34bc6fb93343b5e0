pub mod Steps
pub mod Continued
pub mod Started
pub mod Refused
pub mod Origins
