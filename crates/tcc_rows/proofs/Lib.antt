mod AheadFacts
mod Continuing
mod FieldBytes
mod FinishedFacts
mod InterleavedFaults
mod Interleaving
mod LeastOpen
mod LimitFacts
mod LineFacts
mod Outcomes
mod PastFacts
mod PendingFacts
mod PastLimit
mod ReadsFacts
mod RecordSteps
mod RecordingSteps
mod SealedAlike
mod Settled
mod SeatFacts
mod SettlingLimits
mod SessionStateFacts
mod WorkedTexts
mod WritesFacts
pub mod BothLimits
pub mod FailingFacts
