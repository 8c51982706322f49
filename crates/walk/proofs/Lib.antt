-- What the walks by hand share, by subject.
pub mod Data
pub mod Parameters
pub mod Locals
pub mod Lines
pub mod Walk
pub mod Calls
pub mod Lends
pub mod Fields
pub mod Slices
pub mod Arrays
pub mod Passing
pub mod Words
