-- The text that the layout program reads and writes.
pub mod Decimal
pub mod Input
pub mod Line
