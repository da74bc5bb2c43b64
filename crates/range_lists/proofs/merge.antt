-- Laws for the proof of the joining of touching ranges.
pub mod Laws
