pub mod Findings
pub mod Headlines
pub mod Junit
pub mod Lines
pub mod Reports
