pub mod Selection
pub mod Laws
