pub mod Take
pub mod Laws
