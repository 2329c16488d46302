pub mod Constants
pub mod Laws
pub mod Rounds
pub mod Values
