pub mod Faulty
pub mod FramedTexts
pub mod NoFloats
pub mod Noting
pub mod Runs
