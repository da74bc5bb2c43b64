-- Lemmas of boot mode.
pub mod Laws
