pub mod Cut
pub mod Word
pub mod Number
pub mod Laws
