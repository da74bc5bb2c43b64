pub mod Verdict
pub mod File
pub mod Import
pub mod Held
pub mod Laws
