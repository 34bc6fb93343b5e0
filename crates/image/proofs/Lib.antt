pub mod Sums
pub mod Appended
pub mod Histories
pub mod LaterLoads
pub mod Loads
