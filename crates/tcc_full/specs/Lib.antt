pub mod Rows
pub mod Records
pub mod Links
pub mod Objects
pub mod FullAnswer
pub mod Runs
pub mod Notes
pub mod private
