pub mod Lists
pub mod BitLemmas
pub mod Ascending
pub mod MarkLemmas
pub mod PackedLemmas
