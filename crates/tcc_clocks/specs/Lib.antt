pub mod Parents
pub mod Clocks
pub mod Spans
pub mod Needed
pub mod private
