pub mod Back
pub mod Chunks
pub mod List
pub mod Rows
pub mod Stores
pub mod Table
pub mod Wrong
