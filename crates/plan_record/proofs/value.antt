-- Laws for the proofs of reading values.
pub mod Laws
pub mod Absent
