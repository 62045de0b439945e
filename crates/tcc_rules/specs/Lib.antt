pub mod Asked
pub mod Rules
pub mod Known
pub mod Links
pub mod private
