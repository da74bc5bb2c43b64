pub mod Walk
pub mod WalkStep
pub mod Subtract
pub mod Merge
pub mod Sort
pub mod Node
pub mod Laws
