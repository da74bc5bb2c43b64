pub mod Map
pub mod Rows
pub mod Entries
pub mod Laws
