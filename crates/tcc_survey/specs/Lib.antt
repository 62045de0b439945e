pub mod Circles
pub mod Contradictions
pub mod Names
pub mod Renamings
pub mod private
