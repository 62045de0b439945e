mod Digits
mod Reading
mod Turning
mod WorkedReplies
mod WorkedRequests
