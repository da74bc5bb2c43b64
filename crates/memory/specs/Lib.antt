pub mod Builder
pub mod Rows
pub mod Used
pub mod Build
pub mod Laws
