pub mod Shapes
pub mod Answers
pub mod Claims
pub mod Texts
pub mod Json
pub mod private
