-- Laws for the proofs of lists.
pub mod Laws
