pub mod Entities
pub mod Growing
pub mod Laws
pub mod Resolve
