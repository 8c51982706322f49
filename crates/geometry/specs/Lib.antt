-- The array's limits, placement, and where blocks stand.
pub mod Limits
pub mod Level4
pub mod Level5
pub mod Placement
pub mod Placing
pub mod Answers
pub mod Store
pub mod Asked
pub mod Report
pub mod Fill
