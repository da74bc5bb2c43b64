pub mod Table
pub mod Lookup
pub mod Ratio
pub mod Pages
pub mod Hint
pub mod Pool
pub mod Laws
