pub mod Number
pub mod Put
pub mod Line
pub mod Laws
