-- Laws of the text's definitions.
pub mod Decimal
pub mod Asks
pub mod Parsing
pub mod Lines
pub mod Put
pub mod Reading
