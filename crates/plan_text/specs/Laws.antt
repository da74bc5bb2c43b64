pub mod Order
pub mod Text
pub mod Plan
pub mod Spelling
pub mod Wrong
