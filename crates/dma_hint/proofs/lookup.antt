-- The proofs of `lookup`.
pub mod Laws
