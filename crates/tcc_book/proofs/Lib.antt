mod Agreed
mod Copied
mod Opened
mod Positions
mod Prefixes
mod Recorded
mod Whole
