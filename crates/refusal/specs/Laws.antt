-- Laws of the rows, of answers that may be a refusal, and of rows as rules.
pub mod Answer
pub mod Rows
pub mod Rule
