pub mod Quiet
pub mod Watching
pub mod private
