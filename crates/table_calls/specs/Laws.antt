pub mod Build
pub mod Ranges
pub mod Request
pub mod Wrong
