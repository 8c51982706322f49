-- The request record, what becomes of it, when a table is sound, and what one look at a record or a table finds.
pub mod Life
pub mod Phase
pub mod Sound
pub mod Asked
pub mod Survey
pub mod Seen
pub mod Look
