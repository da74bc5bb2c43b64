-- Laws for the proofs of reading numbers.
pub mod Laws
