-- The proofs of `get`.
pub mod Laws
