-- Laws of the walks of boot selection. File and Import say what the definitions mean, and Wrong what they do not;
-- the others are steps to them and to the proofs, and serve the parts that come after.
pub mod ByNode
pub mod File
pub mod Import
pub mod Judged
pub mod OnNode
pub mod Paged
pub mod Verdict
pub mod Walks
pub mod Written
pub mod Wrong
