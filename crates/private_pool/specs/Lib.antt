pub mod Piece
pub mod Pool
pub mod Laws
