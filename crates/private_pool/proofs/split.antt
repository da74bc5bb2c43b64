-- Laws for the proof of the split.
pub mod Laws
