pub mod Order
pub mod OrderStep
pub mod Text
pub mod Plan
pub mod Spelling
pub mod Laws
