-- Sanity laws: each says in another way what a definition beside it means.
pub mod Cut
pub mod Number
pub mod Word
pub mod Wrong
