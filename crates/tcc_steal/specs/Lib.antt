pub mod Findings
pub mod Worlds
pub mod Steps
pub mod Soundness
pub mod Machines
pub mod Outcomes
pub mod private
