pub mod Answer
pub mod Cause
pub mod Climbing
pub mod Laws
pub mod Operators
pub mod Read
pub mod Reading
pub mod Spelling
