pub mod Number
pub mod Rows
pub mod Answer
pub mod Rule
pub mod Laws
