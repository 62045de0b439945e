pub mod Among
pub mod Contradicted
pub mod Lengths
pub mod Nearness
pub mod Picked
pub mod private
