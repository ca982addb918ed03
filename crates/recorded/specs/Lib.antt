-- What the contracts cite.
pub mod Texts
