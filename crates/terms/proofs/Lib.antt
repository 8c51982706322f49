-- Laws of the words of specs/, by subject.
pub mod Lists
pub mod Rows
pub mod Sets
pub mod Bits
pub mod Refusals
pub mod Answers
