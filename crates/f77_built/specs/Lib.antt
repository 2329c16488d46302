pub mod Built
pub mod Declared
pub mod Laws
