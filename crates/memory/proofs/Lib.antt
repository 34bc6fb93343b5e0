pub mod Words
pub mod Bytes
