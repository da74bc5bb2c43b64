-- Lemmas of the taking.
pub mod Laws
