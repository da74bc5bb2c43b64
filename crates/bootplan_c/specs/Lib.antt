pub mod Build
pub mod Laws
pub mod Number
pub mod Planning
pub mod Pool
pub mod Ranges
pub mod Request
pub mod Sizing
