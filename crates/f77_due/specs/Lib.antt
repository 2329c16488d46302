pub mod Breaks
pub mod Due
pub mod Starts
pub mod Unit
