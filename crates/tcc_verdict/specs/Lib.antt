pub mod Checking
pub mod Checks
pub mod Stopping
pub mod Noting
pub mod LargeTexts
pub mod LargeChecks
pub mod private
