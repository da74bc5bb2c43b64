pub mod Part
pub mod Placed
pub mod Request
pub mod Kept
pub mod BuildRule
