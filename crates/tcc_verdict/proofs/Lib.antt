pub mod Checked
pub mod Shown
pub mod NotesLemmas
mod FieldsLemmas
mod WorkedNotes
pub mod Owned
pub mod Faults
pub mod Judgements
pub mod TrueClaims
pub mod LargeShown
