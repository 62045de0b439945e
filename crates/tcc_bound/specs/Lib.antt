pub mod Knowing
pub mod Seated
pub mod private
