pub mod Build
pub mod Pool
pub mod Ranges
pub mod Request
pub mod Wrong
