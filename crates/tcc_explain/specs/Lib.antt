pub mod Certificates
pub mod Explained
pub mod KnownCost
pub mod Tabled
pub mod Next
pub mod Keys
pub mod private
