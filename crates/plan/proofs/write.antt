-- The proofs of `write`.
pub mod Laws
