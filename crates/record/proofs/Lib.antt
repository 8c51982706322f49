-- Laws of records and tables, by subject.
pub mod Zero
pub mod HeldBefore
pub mod Clashes
pub mod Filling
pub mod Clauses
pub mod Soundness
pub mod Surveyed
pub mod SurveyTells
pub mod Looks
pub mod Looked
pub mod SoundTables
pub mod Rest
