-- Laws of selection by words.
pub mod Wrong
