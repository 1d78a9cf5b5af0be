-- The C face: what every entry point shares.
pub mod Face
