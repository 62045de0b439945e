pub mod Firsts
pub mod Provable
pub mod Answered
pub mod private
