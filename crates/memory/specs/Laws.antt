-- Laws of the build.
pub mod Listed
pub mod Reserved
pub mod Rows
pub mod Count
pub mod Walked
pub mod Overlap
pub mod Build
pub mod Wrong
