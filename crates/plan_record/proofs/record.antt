-- Laws for the proofs of reading records.
pub mod Laws
pub mod Forms
