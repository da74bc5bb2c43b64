-- Sanity laws: each says in another way what a definition beside it means. Entries is of a walk over tagged ranges.
pub mod Boundaries
pub mod Entries
pub mod Merge
pub mod Node
pub mod Picked
pub mod Pieces
pub mod Sort
pub mod Subtract
pub mod Walk
pub mod Wrong
