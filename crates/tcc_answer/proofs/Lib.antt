pub mod Ends
pub mod NoFloats
mod JsonPieces
mod WorkedAnswers
mod WorkedTexts
mod WorkedJson
pub mod CappedFacts
