pub mod Line
pub mod Write
pub mod Get
pub mod Pool
pub mod Planner
pub mod Laws
