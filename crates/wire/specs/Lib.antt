pub mod Be
pub mod Pick
