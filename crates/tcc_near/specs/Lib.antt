pub mod WalkLengths
pub mod private
