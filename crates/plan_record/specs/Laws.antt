-- Wrong answers, refuted.
pub mod Wrong
