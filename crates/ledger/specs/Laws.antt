-- The claim refuted for wrong planners (Wrong), and the laws on the way to its proof of the planner that the definitions are. That proof
-- (Allocated, Searched, Placed, Run, Demand) stands in proofs/, since it rests on definitions that the edits of must-fail/ change.
pub mod Search
pub mod Same
pub mod Cut
pub mod Free
pub mod Opened
pub mod Allocated
pub mod Nodes
pub mod Kept
pub mod Demand
pub mod Wrong
