pub mod Told
pub mod Texts
pub mod Json
pub mod Surveys
pub mod Runs
pub mod Noting
pub mod private
