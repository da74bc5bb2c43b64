pub mod Node
pub mod Share
pub mod Laws
