-- The words, by subject.
pub mod Reply
pub mod Sets
pub mod Lists
pub mod Reasons
