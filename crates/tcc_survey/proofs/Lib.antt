pub mod BesideLemmas
pub mod CircleLemmas
pub mod FirstLemmas
mod Worked
pub mod ScanLemmas
pub mod Pushed
pub mod ListLemmas
pub mod FindLemmas
pub mod ChosenLemmas
pub mod ItemLemmas
pub mod RenamingLemmas
pub mod SeenLemmas
pub mod CalledLemmas
pub mod CallingLemmas
pub mod LaneLemmas
pub mod NeededLemmas
pub mod AmongLemmas
pub mod ManyLemmas
