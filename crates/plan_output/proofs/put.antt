-- Laws for the proofs of puts.
pub mod Laws
