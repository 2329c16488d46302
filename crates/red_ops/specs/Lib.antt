pub mod Laws
pub mod Partials
