pub mod Repeated
pub mod SlotLaws
pub mod Straight
