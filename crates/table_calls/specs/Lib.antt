pub mod Build
pub mod Laws
pub mod Pool
pub mod Ranges
pub mod Request
