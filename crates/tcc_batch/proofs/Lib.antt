pub mod Found
mod WorkedHeadlines
mod WorkedTexts
