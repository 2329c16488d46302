pub mod EnvLaws
pub mod NodeLaws
pub mod TurnLaws
pub mod WindowLaws
