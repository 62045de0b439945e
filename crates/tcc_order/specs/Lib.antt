pub mod Placements
pub mod private
