-- What the calls that are lent the table hand back and leave.
pub mod Lent
