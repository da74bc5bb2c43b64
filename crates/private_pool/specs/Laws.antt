-- Laws of the placement.
pub mod Piece
pub mod Handed
pub mod Pool
pub mod Wrong
