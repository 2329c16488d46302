pub mod NineRegions
pub mod OneRegion
