pub mod Page
pub mod Says
