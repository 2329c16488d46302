pub mod Counts
pub mod Filled
pub mod Marks
pub mod Regions
pub mod Row
pub mod Rows
pub mod Spans
pub mod Table
