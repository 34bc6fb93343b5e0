pub mod Format
pub mod Images
pub mod Load
pub mod Calls
pub mod Answers
pub mod WholeStatement
pub mod Refusals
