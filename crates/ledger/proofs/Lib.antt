pub mod Allocated
pub mod Searched
pub mod Placed
pub mod Run
pub mod Demand
