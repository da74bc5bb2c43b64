-- The proofs of `selection`.
pub mod Laws
pub mod Lent
pub mod Told
