-- Laws of the table that the functions' proofs rest on.
pub mod Usage
pub mod Search
pub mod Split
pub mod List
pub mod Request
pub mod Wrong
