pub mod Headers
pub mod Requests
pub mod Replies
pub mod private
