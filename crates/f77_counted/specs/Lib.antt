pub mod Laws
pub mod References
