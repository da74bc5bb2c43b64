pub mod Field
pub mod Plain
pub mod Record
pub mod Short
