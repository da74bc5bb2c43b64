-- Laws of the taking. Taking says what the definitions mean, and Wrong what they do not; the others are steps to it and to
-- the proofs. Bounds and Stored are of all three parts.
pub mod Bounds
pub mod Choosing
pub mod Linked
pub mod Stored
pub mod TakeSteps
pub mod Taking
pub mod Wrong
