pub mod Claim
pub mod BuildRule
pub mod RequestRule
pub mod Laws
