-- Sanity laws: each says in another way what a definition beside it means.
pub mod Table
pub mod Lookup
pub mod Ratio
pub mod Pages
pub mod Hint
pub mod Wrong
