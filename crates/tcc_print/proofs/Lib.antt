pub mod Sent
mod WorkedTexts
pub mod JsonPieces
pub mod Counted
pub mod Checkpoints
pub mod Courses
pub mod LastSaid
pub mod Saying
pub mod Statuses
pub mod AtCheckpoints
pub mod Noted
pub mod RowNotes
mod FirstWrites
