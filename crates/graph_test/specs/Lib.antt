-- Records and tables as numbers.
pub mod Numbers
