pub mod OrderLines
pub mod OrdersLeftOut
pub mod Parsing
pub mod PlainCommands
pub mod WorkedCheckerLines
pub mod WorkedCommandLines
mod WorkedLimits
