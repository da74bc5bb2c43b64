pub mod Call
pub mod Ledger
pub mod Search
pub mod Planner
pub mod Claim
pub mod Wrong
pub mod Laws
