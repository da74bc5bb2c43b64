pub mod Code
pub mod Laws
pub mod List
pub mod Rows
pub mod Table
pub mod Usage
