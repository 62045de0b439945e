pub mod WorkedTexts
pub mod SentFacts
pub mod Items
pub mod GivenTexts
pub mod GivenFacts
pub mod WorkedReading
pub mod RangeFacts
pub mod Numbered
pub mod ReadingFacts
pub mod LinesBack
pub mod FormsBack
pub mod DigitLines
pub mod LinksBack
pub mod ClaimsBack
pub mod WindowFacts
pub mod InputFacts
pub mod WordFacts
pub mod OnwardFacts
pub mod StepFacts
pub mod PartsTold
pub mod PartFacts
pub mod StageFacts
pub mod CollectFacts
pub mod OneText
pub mod OneClaim
pub mod Ends
pub mod OwnLinks
mod TakingFacts
mod LargeOnward
mod LargeReads
mod LargeBack
mod LargeOne
mod WorkedLarge
mod OneDigit
mod OneSizes
mod VersionFacts
mod RunFacts
