-- Laws of selection.
pub mod Boot
pub mod BootRule
pub mod Choice
pub mod Claim
pub mod Copied
pub mod Host
pub mod HostRule
pub mod Map
pub mod Parts
pub mod Ram
pub mod Rows
pub mod Rule
pub mod RuleOrder
pub mod RuleTests
pub mod Select
pub mod Wrong
