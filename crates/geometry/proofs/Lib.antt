-- The laws of placement and of where blocks stand.
pub mod Level4
pub mod Level5
pub mod Placing
pub mod Turns
pub mod Answered
pub mod Inverse
pub mod Missing
pub mod Single
pub mod Grid
pub mod Apart
pub mod Bounds
pub mod States
pub mod StateRows
pub mod Asked
pub mod Lengths
