-- Laws of the plan.
pub mod Write
pub mod Get
pub mod Pool
pub mod Made
pub mod Few
pub mod Planner
pub mod Selected
pub mod Read
pub mod Wrong
