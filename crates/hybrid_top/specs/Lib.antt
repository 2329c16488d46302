pub mod Answer
pub mod Causes
pub mod Command
pub mod Machine
pub mod Prepared
pub mod Reading
pub mod StatusText
