pub mod Entity
pub mod Fault
pub mod Limits
pub mod Loop
pub mod Name
pub mod Refusal
