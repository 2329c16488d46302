pub mod Loops
pub mod Pairs
pub mod Products
pub mod Rules
