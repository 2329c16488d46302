pub mod Answer
pub mod Cause
pub mod Laws
pub mod Rows
pub mod Spelling
pub mod Statement
