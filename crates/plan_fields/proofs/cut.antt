-- Laws for the proofs of cutting.
pub mod Laws
