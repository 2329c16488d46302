pub mod CountLemmas
pub mod RowLemmas
pub mod Bits
pub mod FilledLemmas
pub mod RegionLemmas
pub mod SpanLemmas
