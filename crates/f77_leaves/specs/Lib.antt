pub mod Declarations
pub mod Intrinsics
pub mod Leaves
pub mod Meant
