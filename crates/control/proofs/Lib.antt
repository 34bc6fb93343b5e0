pub mod Digits
pub mod Round
pub mod Accepted
pub mod Table
pub mod Masks
pub mod Preparation
pub mod SameBits
