-- Whole calls, computed from the definitions of `states`.
pub mod StateCases
