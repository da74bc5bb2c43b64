-- Laws for the proofs of reading on.
pub mod Laws
