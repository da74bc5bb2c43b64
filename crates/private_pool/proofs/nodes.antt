-- Laws for the proof of the collection of nodes.
pub mod Laws
