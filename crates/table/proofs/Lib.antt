-- A table whose first records are free (Cleared), and lemmas for a proof by hand of a function that is lent the table, or that calls one of the table's. No function needs them now; docs/PORT.md names them.
pub mod Cleared
pub mod Records
pub mod Elements
pub mod Callers
