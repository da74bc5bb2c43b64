-- The claims, proved of the definitions (Build) and of the table's value (Kept), the rows of a request as rules (RequestRule), and the laws
-- on the way to them. What rests on a definition that an edit of must-fail/ changes is proved in proofs/: requests (Part, Placed, Request,
-- Kept) and the rows of a build as rules (BuildRule).
pub mod Notes
pub mod Split
pub mod Part
pub mod Said
pub mod Ram
pub mod Placed
pub mod Request
pub mod Walked
pub mod Pages
pub mod Table
pub mod Used
pub mod Build
pub mod Example
pub mod Kept
pub mod RequestRule
pub mod Wrong
