pub mod Cycle
pub mod Go
pub mod Held
pub mod Datapaths
pub mod Refusals
