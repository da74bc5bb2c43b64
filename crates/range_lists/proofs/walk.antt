-- The proofs of `walk`.
pub mod Laws
