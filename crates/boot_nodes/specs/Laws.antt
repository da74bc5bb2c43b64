-- Laws of the nodes and of their share: they say what the definitions mean.
pub mod Node
pub mod Share
pub mod Wrong
