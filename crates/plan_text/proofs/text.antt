-- Laws for the proofs of reading a text.
pub mod Laws
