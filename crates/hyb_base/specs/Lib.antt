pub mod Count
pub mod Decimal
pub mod Near
pub mod Reduction
pub mod Wrap
