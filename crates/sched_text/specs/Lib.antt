pub mod Form
pub mod Laws
pub mod Picks
pub mod Reading
pub mod Schedules
