pub mod Cheapest
pub mod private
