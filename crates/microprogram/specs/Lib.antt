pub mod Listing
pub mod Published
pub mod Store
pub mod WorkedExamples
