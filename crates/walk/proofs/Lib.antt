pub mod Totals
pub mod Grids
pub mod Once
pub mod Turning
pub mod Allowed
