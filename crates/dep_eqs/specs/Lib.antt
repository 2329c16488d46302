pub mod Equations
