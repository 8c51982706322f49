-- Right parity, where it disagrees, and the scan of an array with nothing open.
pub mod Parity
pub mod Fitting
pub mod Scan
pub mod Rest
