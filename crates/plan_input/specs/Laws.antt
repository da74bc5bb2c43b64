-- Laws of what is read of a text.
pub mod Record
pub mod Input
pub mod Lent
pub mod Room
pub mod Stores
pub mod Wrong
