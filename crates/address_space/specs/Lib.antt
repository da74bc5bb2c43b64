pub mod Usage
pub mod Table
pub mod Fit
pub mod Search
pub mod Split
pub mod Request
pub mod List
pub mod Laws
