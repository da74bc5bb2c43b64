pub mod Local
pub mod Number
pub mod Struct
pub mod Row
