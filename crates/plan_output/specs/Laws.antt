-- Sanity laws: each says in another way what a definition beside it means.
pub mod Number
pub mod Put
pub mod Line
pub mod Wrong
