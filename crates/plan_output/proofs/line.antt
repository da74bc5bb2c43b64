-- Laws for the proofs of lines.
pub mod Laws
