-- Sanity laws: each says in another way what a definition beside it means.
pub mod Align
pub mod Bytes
pub mod Count
pub mod List
pub mod Power
pub mod Range
pub mod Round
pub mod Valid
pub mod Wrong
