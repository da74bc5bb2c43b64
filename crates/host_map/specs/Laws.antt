-- Laws of the map and of its copy.
pub mod Map
pub mod Rows
pub mod Entries
pub mod Wrong
