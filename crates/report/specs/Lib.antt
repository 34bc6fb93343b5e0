pub mod Report
pub mod SummingImage
pub mod JointExamples
