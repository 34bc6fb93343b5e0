pub mod MachineState
pub mod Machines
pub mod Start
pub mod Calls
pub mod Transitions
pub mod Reached
pub mod Refusals
