pub mod LeadingBack
pub mod Shapes
pub mod private
