pub mod Rows
pub mod Searches
pub mod Shares
pub mod Seeds
pub mod Frontiers
pub mod Returns
pub mod private
