pub mod Rules
pub mod Tell
