-- What the proofs of the calls rest on (BySurvey), and that any two outcomes of a call are equal (Outcomes); and lemmas for a proof by hand of a call. No call needs those now.
pub mod BySurvey
pub mod Outcomes
pub mod States
